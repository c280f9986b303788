-- The fixed words and the two numbers, said one behind the other. Assumes nothing.
use Rattle.octets.proofs.Proving.{append_assoc, arith}
use Rattle.octets.specs.Choice.{text}
use Rattle.octets.specs.Bytes.{joined}
use Rattle.listing.specs.Lines.{last_line}
use Rattle.listing.proofs.Growing.{says_on, shown}
use Rattle.listing.proofs.lines.last_line.Goals as goal

pub returns : goal.returns
unfolding last_line joined text
returns c =
    let end = c.said.ensures in
    let sent = c.named-2.ensures in
    let taken = c.named.ensures in
    let none = c.blank.ensures in
    shown (says_on (says_on (says_on none taken.0) sent.0) end) (omega (arith, none.long, taken.1, sent.1, end.longer)) (simp append_assoc)
