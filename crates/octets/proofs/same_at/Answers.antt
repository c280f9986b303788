-- All bytes of b were passed. Assumes nothing.
use Rattle.octets.proofs.Proving.{◌+◌, ◌∙◌, ◌≡◌, ap, arith, eqb, get_or, length, ℕ}
use Rattle.octets.specs.Choice.{all_below}
use Rattle.octets.proofs.Below.{part_same}
use Rattle.octets.proofs.same_at.Goals as goal

pub returns : goal.returns
returns c =
    let a = c.args in
    let e : c.loop-k.k ≡ length a.b.now = omega arith in
    c.loop-k.invariant ∙ ap (λ (m : ℕ). all_below m (λ j. eqb (get_or a.s.now (a.at + j) 0) (get_or a.b.now j 0))) e
    ∙ part_same a.s.now a.at a.b.now c.requires
