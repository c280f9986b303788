-- An entry that passes the checks takes no more shares than are open. Assumes nothing.
use Rattle.octets.proofs.Proving.{Bool, ◌+◌, ◌∙◌, ◌≡◌, ◌≤◌, ap, arith, eqb, eqb-false, false, false≢true, ltb-false, not, not-true, or_left, or_right, refl, sym, true}
use Rattle.octets.specs.Choice.{◌⇒◌⨾◌}
use Rattle.answers.specs.Answer.{is_done}
use Rattle.orders.specs.Counts.{gone, open_shares}
use Rattle.orders.specs.Order.{is_live}
use Rattle.market.specs.Guards.{market_answer}
use Rattle.market.specs.Taken.{shares_right}
use Rattle.market.specs.Types.{Answer, Order, Removed, Done, NotLive, WrongMoment, WrongShares}

-- what passed had each check right
pub record Passed (live moment shares : Bool) : Type 0 where
  pub alive : live ≡ true
  pub in-time : moment ≡ true
  pub fair : shares ≡ true

pub passed : (o : Order) (moment shares : Bool) → is_done (market_answer o moment shares) ≡ true → Passed (is_live o) moment shares
unfolding market_answer is_done
passed o moment shares done = by (is_live o) moment shares done
  where
    by : (l m s : Bool) → is_done (not l ⇒ NotLive ⨾ not m ⇒ WrongMoment ⨾ not s ⇒ WrongShares ⨾ Done) ≡ true → Passed l m s
    by false m s e = absurd (false≢true e)
    by true false s e = absurd (false≢true e)
    by true true false e = absurd (false≢true e)
    by true true true e = record { alive = refl; in-time = refl; fair = refl }

pub room : (o : Order) (d : Removed) → shares_right o d ≡ true → (gone o.shares).0 + d.0 ≤ o.shares.liable.0
unfolding shares_right open_shares
room o d e =
    let w = not-true _ e in
    omega (arith, eqb-false d.0 0 (or_left _ _ w), ltb-false (open_shares o.shares).0 d.0 (or_right (eqb d.0 0) _ w))

-- so whichever count grows by them has room
pub takes : (o : Order) (moment : Bool) (d : Removed) {a : Answer} {s : Bool} → s ≡ shares_right o d → a ≡ market_answer o moment s → a ≡ Done
    → (o.shares.executed.0 + d.0 ≤ o.shares.liable.0) × (o.shares.matched.0 + d.0 ≤ o.shares.liable.0)
unfolding gone is_done
takes o moment d {s = s} right promise done =
    let p = passed o moment s (ap is_done (sym promise ∙ done)) in
    let fits = room o d (sym right ∙ p.fair) in
    (omega (arith, fits), omega (arith, fits))
