-- The first number from the end that differs decides, and where the first two are the same the third does. Assumes nothing.
use Rattle.octets.proofs.Proving.{arith, eq-eqb, ne_eqb, rules}
use Rattle.table.proofs.Backwards.{in_words, eight, four}
use Rattle.table.proofs.compare.same_backwards.Goals as goal

pub returns-then-from_be_bytes-2 : goal.returns-then-from_be_bytes-2
returns-then-from_be_bytes-2 c =
    let xs = c.args.a.now in
    let ys = c.args.b.now in
    rw (
      in_words xs ys (λ k. omega (arith, c.type_inv.a k)) (λ k. omega (arith, c.type_inv.b k)) c.requires.0 c.requires.1,
      ← eight xs 6 c.from_be_bytes.ensures c.bytes_at.ensures (search rules),
      ← eight ys 6 c.from_be_bytes-2.ensures c.bytes_at-2.ensures (search rules),
      eq-eqb _ _ c.if-from_be_bytes.true,
      ← four xs 2 c.from_be_bytes-then-from_be_bytes.ensures c.bytes_at-then-from_be_bytes.ensures (search rules),
      ← four ys 2 c.from_be_bytes-then-from_be_bytes-2.ensures c.bytes_at-then-from_be_bytes-2.ensures (search rules),
      eq-eqb _ _ c.if-from_be_bytes-2.true,
      ← c.number_at.ensures.0,
      ← c.number_at-then-from_be_bytes-2.ensures.0,
    )

pub returns-else-from_be_bytes-2 : goal.returns-else-from_be_bytes-2
returns-else-from_be_bytes-2 c =
    let xs = c.args.a.now in
    let ys = c.args.b.now in
    rw (
      in_words xs ys (λ k. omega (arith, c.type_inv.a k)) (λ k. omega (arith, c.type_inv.b k)) c.requires.0 c.requires.1,
      ← eight xs 6 c.from_be_bytes.ensures c.bytes_at.ensures (search rules),
      ← eight ys 6 c.from_be_bytes-2.ensures c.bytes_at-2.ensures (search rules),
      eq-eqb _ _ c.if-from_be_bytes.true,
      ← four xs 2 c.from_be_bytes-then-from_be_bytes.ensures c.bytes_at-then-from_be_bytes.ensures (search rules),
      ← four ys 2 c.from_be_bytes-then-from_be_bytes-2.ensures c.bytes_at-then-from_be_bytes-2.ensures (search rules),
      ne_eqb _ _ c.if-from_be_bytes-2.false,
    )

pub returns-else-from_be_bytes : goal.returns-else-from_be_bytes
returns-else-from_be_bytes c =
    let xs = c.args.a.now in
    let ys = c.args.b.now in
    rw (
      in_words xs ys (λ k. omega (arith, c.type_inv.a k)) (λ k. omega (arith, c.type_inv.b k)) c.requires.0 c.requires.1,
      ← eight xs 6 c.from_be_bytes.ensures c.bytes_at.ensures (search rules),
      ← eight ys 6 c.from_be_bytes-2.ensures c.bytes_at-2.ensures (search rules),
      ne_eqb _ _ c.if-from_be_bytes.false,
    )
