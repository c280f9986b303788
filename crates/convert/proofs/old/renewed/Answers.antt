-- The bytes are copied whole, and byte 2 is set. Assumes nothing.
use Rattle.octets.proofs.Proving.{List, ◌∙◌, ap, arith, length-take-le, set, set_split, take, ℕ}
use Rattle.convert.specs.Old.{renewed}
use Rattle.convert.proofs.old.renewed.Goals as goal

pub returns : goal.returns
unfolding renewed
returns c =
    let old = c.args.old.now in
    ap (λ (l : List ℕ). set l 2 1) c.copy_from_slice.ensures.after
    ∙ set_split (take 60 old) 2 1 (omega (arith, length-take-le 60 old (omega (arith, c.requires))))
