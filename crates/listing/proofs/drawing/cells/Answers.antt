-- One cell more is said at each turn. Assumes nothing.
use Rattle.octets.proofs.Proving.{◌∙◌, ◌≡◌, add-one, arith, sym}
use Rattle.listing.specs.Drawing.{cells, cell_count}
use Rattle.listing.proofs.Growing.{says_on}
use Rattle.listing.proofs.Places.{length-cells}
use Rattle.listing.proofs.drawing.cells.Goals as goal

pub loop-k-init : goal.loop-k-init
unfolding cells
loop-k-init c = c.blank-drawn.ensures

pub said-drawn-requires : goal.said-drawn-requires
said-drawn-requires c =
    let s = c.loop-k.invariant in
    let a = c.args in
    (omega (arith, s.long, length-cells a.size a.at a.held c.loop-k.k), s.wide)

pub loop-k-preserved : goal.loop-k-preserved
unfolding cells
loop-k-preserved c = rw (add-one, ← c.cell.ensures) (says_on c.loop-k.invariant c.said-drawn.ensures)

pub returns : goal.returns
returns c =
    let all : c.loop-k.k ≡ cell_count = omega arith in
    let s = c.loop-k.invariant in
    let a = c.args in
    (rw (sym all) s, s.long ∙ length-cells a.size a.at a.held c.loop-k.k ∙ all)
