-- The last place that is not above the symbol has it, or no place has. Assumes nothing.
use Rattle.octets.proofs.Proving.{◌∙◌, rules, subst, sym, ℕ}
use Rattle.octets.specs.Choice.{first_below, first_from}
use Rattle.stocks.specs.Stocks.{places_in, place_of}
use Rattle.stocks.specs.Ranks.{LastNotAbove}
use Rattle.stocks.proofs.Halving.{found, missed}
use Rattle.stocks.proofs.find.Listed.place_of.Goals as goal

pub returns-then-places-eq0 : goal.returns-then-places-eq0
unfolding place_of first_below first_from
returns-then-places-eq0 c = rw (sym c.places.ensures ∙ c.if-places-eq0.true)

pub returns-then-rank_at-wanted : goal.returns-then-rank_at-wanted
returns-then-rank_at-wanted c =
    let a = c.args in
    let s = a.self.now in
    let w = c.rank-wanted.ensures in
    let e = subst (λ (k : ℕ). LastNotAbove s.bytes.now k (places_in s.bytes.now) c.last_not_above-i.result) w.0 c.last_not_above-i.ensures in
    (found s.bytes.now a.symbol s.are_bytes w.1 (search rules) s.good _ e (sym c.rank_at.ensures ∙ c.if-rank_at-wanted.true ∙ w.0), e.0)

pub returns-else-rank_at-wanted : goal.returns-else-rank_at-wanted
returns-else-rank_at-wanted c =
    let a = c.args in
    let s = a.self.now in
    let w = c.rank-wanted.ensures in
    let e = subst (λ (k : ℕ). LastNotAbove s.bytes.now k (places_in s.bytes.now) c.last_not_above-i.result) w.0 c.last_not_above-i.ensures in
    sym (missed s.bytes.now a.symbol s.are_bytes w.1 (search rules) s.good _ e (λ q. c.if-rank_at-wanted.false (c.rank_at.ensures ∙ q ∙ sym w.0)))
