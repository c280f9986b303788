-- What becomes of a live order stands: it is live with something open, or dead with nothing. Assumes nothing.
use Rattle.octets.proofs.Proving.{Bool, ◌∙◌, ◌≡◌, ◌≤◌, ◌⊎◌, ap, arith, eqb, eqb-false, eqb-true, false, inl, inr, not, refl, true}
use Rattle.octets.specs.Choice.{pick}
use Rattle.wire.specs.Letters.{live, dead}
use Rattle.orders.specs.Limits.{most_shares}
use Rattle.orders.specs.Counts.{gone, open_shares}
use Rattle.orders.specs.Order.{is_live, is_used, dead_if_spent}
use Rattle.orders.specs.declared.counts.Counts.{Counts}
use Rattle.orders.specs.declared.order.Order.{Order}
use Rattle.orders.proofs.Standing.{Live, Dead}

abbrev pub Standing : Order → Type 0
Standing o = Live o ⊎ Dead o

pub live_state : (o : Order) → is_live o ≡ true → o.state ≡ live
unfolding is_live
live_state o = eqb-true o.state live

-- whatever becomes of its counts, as long as not more is gone than it is liable for
pub counted : (o : Order) (s : Counts) → o.state ≡ live → (gone s).0 ≤ s.liable.0 → s.liable.0 ≤ most_shares → Standing (dead_if_spent o s)
unfolding dead_if_spent open_shares
counted o s alive within most = by-open (eqb (open_shares s).0 0) refl
  where
    by-open : (t : Bool) → eqb (open_shares s).0 0 ≡ t → Standing (dead_if_spent o s)
    by-open true e = inr (ap (λ b. pick b dead o.state) e, omega (arith, eqb-true (open_shares s).0 0 e), most)
    by-open false e = inl (ap (λ b. pick b dead o.state) e ∙ alive, omega (arith, eqb-false (open_shares s).0 0 e), most)

-- and it has its record still
pub spent-used : (o : Order) (s : Counts) → o.state ≡ live → is_used (dead_if_spent o s) ≡ true
unfolding dead_if_spent is_used
spent-used o s alive = by (eqb (open_shares s).0 0)
  where
    by : (b : Bool) → not (eqb (pick b dead o.state) 0) ≡ true
    by true = refl
    by false = rw alive

pub executed-most : (o : Order) → Standing o → o.shares.executed.0 ≤ most_shares
unfolding gone
executed-most o (inl l) = omega (arith, l.1, l.2)
executed-most o (inr d) = omega (arith, d.1, d.2)

pub standing-used : (o : Order) → Standing o → is_used o ≡ true
unfolding is_used
standing-used o (inl l) = rw l.0
standing-used o (inr d) = rw d.0
