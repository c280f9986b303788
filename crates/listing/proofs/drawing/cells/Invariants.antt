-- One cell more is said at each turn. Assumes nothing.
use Rattle.listing.specs.Lines.{Says}
use Rattle.listing.specs.Drawing.{cells}
use Rattle.listing.proofs.drawing.cells.Given as goal

abbrev pub invariant-loop-k : goal.invariant-loop-k
invariant-loop-k l = Says l.drawn (cells l.size l.at l.held l.k)
