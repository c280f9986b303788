-- A firm is listed where its place is before the count. Assumes nothing.
use Rattle.octets.proofs.Proving.{◌∙◌, ap, ltb, sym, ℕ}
use Rattle.header.proofs.Blocked.{listed_below}
use Rattle.header.proofs.firms.is_listed.Goals as goal

pub returns : goal.returns
returns c =
    let a = c.args in
    ap (λ (k : ℕ). ltb k a.h.count) c.firm_place.ensures ∙ sym (listed_below a.h a.firm)
