-- A byte more is a digit more, of at most eight. Assumes nothing.
use Rattle.octets.proofs.Proving.{◌*◌, ◌+◌, ◌-◌, ◌∙◌, add-one, ap, arith, drop, get_or, lit<, pow-le-pow_right, pow-suc, refl, suc, sym, take, ℕ}
use Rattle.octets.specs.Bytes.{number_of, number_from}
use Rattle.octets.proofs.Laws.{number-taken, part_bytes}
use Rattle.octets.proofs.number_at.Goals as goal
use Rattle.octets.proofs.number_at.Goals.{In-loop-b}

pub loop-b-init : goal.loop-b-init
unfolding number_of number_from
loop-b-init c = (refl, lit< tt)

-- in a turn, 256 to the next number is at most 2 to the 64
pub overflow_mul-v : goal.overflow_mul-v
overflow_mul-v c =
    let k : ℕ = c.loop-b.b-index in
    omega (arith, pow-suc 256 k, pow-le-pow_right {n = 256} (lit< tt) {i = suc k} {j = 8} (omega arith))

pub loop-b-preserved : goal.loop-b-preserved
loop-b-preserved c =
    let a = c.args in
    let k = c.loop-b.b-index in
    let n = a.at + a.width - a.at in
    let xs = take n (drop a.at a.s.now) in
    let byte = part_bytes a.s.now (λ i. omega (arith, c.type_inv.s i)) a.at n k in (
      ap (λ (v : ℕ). v * 256 + get_or xs k 0) c.loop-b.invariant.0 ∙ sym (number-taken xs k c.loop-b-test.true),
      rw (add-one, pow-suc) (omega (arith, byte)),
    )
