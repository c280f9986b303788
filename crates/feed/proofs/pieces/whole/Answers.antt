-- Each return is the choice that its tests led to. Assumes nothing.
use Rattle.octets.proofs.Proving.{arith, eq-eqb, le-ltb, length, lt-ltb, ne_eqb}
use Rattle.feed.specs.Feed.{whole}
use Rattle.feed.proofs.pieces.whole.Goals as goal

pub returns-in_default : goal.returns-in_default
unfolding whole
returns-in_default c = simp (eq-eqb (length c.args.bytes.now) 0 (omega arith))

pub returns-then-bytes-n : goal.returns-then-bytes-n
unfolding whole
returns-then-bytes-n c =
    let e = c.length_by-n.ensures in
    simp (ne_eqb (length c.args.bytes.now) 0 (λ z. omega (arith, z)), lt-ltb _ _ (rw e at c.if-bytes-n.true))

pub returns : goal.returns
unfolding whole
returns c =
    let e = c.length_by-n.ensures in
    simp (e, ne_eqb (length c.args.bytes.now) 0 (λ z. omega (arith, z)), le-ltb _ _ (rw e at c.if-bytes-n.false))
