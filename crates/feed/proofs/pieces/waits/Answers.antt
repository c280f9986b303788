-- Each return is the choice that its arm led to. Assumes nothing.
use Rattle.octets.proofs.Proving.{◌<◌, arith, eq-eqb, length, ne_eqb}
use Rattle.feed.specs.Feed.{waits}
use Rattle.feed.proofs.pieces.waits.Goals as goal

pub returns-in-empty : goal.returns-in-empty
unfolding waits
returns-in-empty c = simp (eq-eqb (length c.args.bytes.now) 0 (omega arith))

pub returns-in-len1-up : goal.returns-in-len1-up
unfolding waits
returns-in-len1-up c =
    let some : 0 < length c.args.bytes.now = omega arith in
    simp (ne_eqb (length c.args.bytes.now) 0 (λ z. omega (arith, z)), c.length_by.ensures)
