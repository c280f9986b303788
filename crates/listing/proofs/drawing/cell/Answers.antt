-- Each return is the guard that its tests led to. Assumes nothing.
use Rattle.octets.proofs.Proving.{◌∙◌, sym}
use Rattle.listing.specs.Drawing.{cell}
use Rattle.listing.proofs.drawing.cell.Goals as goal

pub returns-then-is_read_place : goal.returns-then-is_read_place
unfolding cell
returns-then-is_read_place c = simp (sym c.is_read_place.ensures ∙ c.if-is_read_place.true)

pub returns-then-is_held : goal.returns-then-is_held
unfolding cell
returns-then-is_held c =
    let p = c in
    simp (sym p.is_read_place.ensures ∙ p.if-is_read_place.false, sym (rw c.first_place.ensures.0 at c.is_held.ensures) ∙ c.if-is_held.true)

pub returns : goal.returns
unfolding cell
returns c =
    let p = c in
    simp (sym p.is_read_place.ensures ∙ p.if-is_read_place.false, sym (rw c.first_place.ensures.0 at c.is_held.ensures) ∙ c.if-is_held.false)
