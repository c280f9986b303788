-- Each arm is a layout's letter, and behind the last no letter is left. Assumes nothing.
use Rattle.octets.proofs.Proving.{ne_eqb, sym}
use Rattle.wire.specs.Layout.{layout_for}
use Rattle.wire.specs.Messages.{length_for}
use Rattle.purge.proofs.request_length.Goals as goal

pub returns-in-77 : goal.returns-in-77
unfolding length_for layout_for
returns-in-77 c = rw c.in-77.is

pub returns-in-68 : goal.returns-in-68
unfolding length_for layout_for
returns-in-68 c = rw c.in-68.is

pub returns-in-69 : goal.returns-in-69
unfolding length_for layout_for
returns-in-69 c = rw c.in-69.is

pub returns-in_default : goal.returns-in_default
unfolding length_for layout_for
returns-in_default c =
    let others = c.in_default.in_default-own.rest in
    simp (ne_eqb _ _ (λ z. others.0.0.1 (sym z)), ne_eqb _ _ (λ z. others.0.1 (sym z)), ne_eqb _ _ (λ z. others.1 (sym z)))
