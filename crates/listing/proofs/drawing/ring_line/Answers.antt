-- The cells and the three numbers, said one behind the other. Assumes nothing.
use Rattle.octets.proofs.Proving.{append_assoc, arith}
use Rattle.octets.specs.Choice.{text}
use Rattle.octets.specs.Bytes.{joined}
use Rattle.listing.specs.Drawing.{drawing}
use Rattle.listing.proofs.Growing.{says_on, shown}
use Rattle.listing.proofs.drawing.ring_line.Goals as goal

pub returns : goal.returns
unfolding drawing joined text
returns c =
    let end = c.said.ensures in
    let size = c.named-3.ensures in
    let held = c.named-2.ensures in
    let at = c.named.ensures in
    let cells = c.cells.ensures in
    shown
    (says_on (says_on (says_on (says_on cells.0 at.0) held.0) size.0) end)
    (omega (arith, cells.1, at.1, held.1, size.1, end.longer))
    (simp append_assoc)
