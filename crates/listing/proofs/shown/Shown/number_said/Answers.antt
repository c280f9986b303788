-- `io` gives the digits, at most twenty, and they are said. Assumes nothing.
use Rattle.octets.proofs.Proving.{◌∙◌, ◌≤◌, arith}
use Rattle.listing.proofs.Places.{at-most-twenty, decimal-text, decimal-long}
use Rattle.listing.proofs.shown.Shown.number_said.Goals as goal

pub returns : goal.returns
returns c =
    let s = c in
    let k = c.decimal-k in
    let few : k.result ≤ 20 = at-most-twenty s.args.n k.result (omega arith) k.ensures.len in
    let is = k.ensures.digits ∙ decimal-text s.args.n k.result few k.ensures.len in
    let added = rw is at c.said.ensures in
    (added, omega (arith, added.longer, decimal-long s.args.n k.result few k.ensures.len))
