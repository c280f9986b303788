-- Number, kind, answer and type, said one behind the other. Assumes nothing.
use Rattle.octets.proofs.Proving.{append_assoc, arith}
use Rattle.octets.specs.Bytes.{joined}
use Rattle.listing.specs.Lines.{line}
use Rattle.listing.proofs.Growing.{says_on, shown}
use Rattle.listing.proofs.lines.line.Goals as goal

pub returns : goal.returns
unfolding line joined
returns c =
    let end = c.said.ensures in
    let answer = c.named-2.ensures in
    let kind = c.in_hex.ensures in
    let number = c.named.ensures in
    let none = c.blank.ensures in
    shown
    (says_on (says_on (says_on none number.0) (rw kind at answer.0)) end)
    (omega (arith, none.long, number.1, rw kind at answer.1, end.longer))
    (simp append_assoc)
