-- The shapes that a plan may have, and what every decision of the rules keeps; first each kind of plan, then each change of a live order.
-- Assumes nothing.
use Rattle.std.specs.Prelude.{Option, Some, None, Ok, Err}
use Rattle.octets.proofs.Proving.{Bool, List, ◌&&◌, ◌+◌, ◌-◌, ◌≡◌, ◌≤◌, arith, eqb, false, inl, length, not, refl, true, ℕ}
use Rattle.octets.specs.Bytes.{zeros}
use Rattle.answers.specs.Answer.{answer_number}
use Rattle.wire.specs.Letters.{dead}
use Rattle.wire.specs.Limits.{token_size}
use Rattle.header.specs.Limits.{day_closed}
use Rattle.orders.specs.Limits.{most_shares}
use Rattle.orders.specs.Counts.{gone, open_shares, cut, with_liable}
use Rattle.orders.specs.Order.{is_live, is_used, no_order, rejected_order, dead_if_spent, with_flags, with_side, killed}
use Rattle.orders.specs.declared.counts.Counts.{Counts}
use Rattle.orders.proofs.Standing.{Live}
use Rattle.rules.specs.Plan.{answer_of, plan_of, refused, changing, renumbering, accepting, replacing as replacing_by, rejecting, beginning, blocking, setting}
use Rattle.laws.specs.Blocked.{is_blocked}
use Rattle.laws.specs.Cancels.{executions_plus_open}
use Rattle.laws.proofs.Types.{Answer, Order, Plan, StockState, Decision, Begins, Day, Block, Notice, Silent, SystemEvent, Accepted, Replaced, Canceled, AiqCancelled, Executed, Rejected, CancelPending, CancelReject, PriorityUpdate, Modified}
use Rattle.laws.proofs.Standing.{Standing, live_state, counted}

-- ---- what a plan does to the order that the entry names, and what it adds

-- the fields that are texts have their widths
pub record Shaped (o : Order) : Type 0 where
  pub token : length o.token ≡ token_size
  pub stock : length o.details.kept.stock ≡ 8
  pub firm : length o.details.kept.firm ≡ 4
  pub previous : length o.details.previous ≡ token_size

-- what an Executed tells: executed grows by this, and by nothing else
abbrev pub told_executed : Notice → ℕ
told_executed (Executed e) = e.shares.0
told_executed Silent = 0
told_executed (SystemEvent event) = 0
told_executed Accepted = 0
told_executed Replaced = 0
told_executed (Canceled decrement reason) = 0
told_executed (AiqCancelled e) = 0
told_executed (Rejected reason) = 0
told_executed CancelPending = 0
told_executed CancelReject = 0
told_executed PriorityUpdate = 0
told_executed Modified = 0

-- `after` is what becomes of the order `named`, which was live: no rule changes another
pub record Changed (named : Order) (notice : Notice) (after : Order) : Type 0 where
  pub alive : is_live named ≡ true
  pub standing : Standing after
  pub shaped : Shaped after
  pub token : after.token ≡ named.token
  pub previous : after.details.previous ≡ named.details.previous
  pub executed : after.shares.executed.0 ≡ named.shares.executed.0 + told_executed notice
  -- executions plus open never rise
  pub limit : (executions_plus_open after.shares).0 ≤ (executions_plus_open named.shares).0

-- a live order under the token t, which carries over these executed shares from the order of the token before it
pub record Born (t : List ℕ) (executed : ℕ) (before : List ℕ) (new : Order) : Type 0 where
  pub alive : Live new
  pub shaped : Shaped new
  pub token : new.token ≡ t
  pub carried : new.shares.executed.0 ≡ executed
  pub previous : new.details.previous ≡ before

-- ---- of which order a message tells

pub data Subject : Type 0 where
  of_none : Subject
  of_named : Subject
  of_new : Subject
  -- the new one, and the one before it
  of_both : Subject

abbrev pub subject : Notice → Subject
subject Silent = of_none
subject (SystemEvent event) = of_none
subject Accepted = of_new
subject Replaced = of_both
subject (Canceled decrement reason) = of_named
subject (AiqCancelled e) = of_named
subject (Executed e) = of_named
subject (Rejected reason) = of_new
subject CancelPending = of_named
subject CancelReject = of_named
subject PriorityUpdate = of_named
subject Modified = of_named

-- of no new order
abbrev pub Older : Subject → Type 0
Older of_none = Unit {0}
Older of_named = Unit {0}
Older of_new = ⊥
Older of_both = ⊥

-- ---- the shapes

-- `token` is the one that the entry may use up, and `found` the order that the table has under it already
pub data Shape (named found : Order) (token : List ℕ) (p : Plan) : Type 0 where
  nobody : p.changed ≡ no_order → p.added ≡ no_order → subject p.notice ≡ of_none → Shape named found token p
  changes : Changed named p.notice p.changed → p.added ≡ no_order → Older (subject p.notice) → Shape named found token p
  accepts : is_used found ≡ false → p.changed ≡ no_order → Born token 0 (zeros token_size) p.added → p.notice ≡ Accepted
      → Shape named found token p
  rejects : is_used found ≡ false → p.changed ≡ no_order → p.added ≡ rejected_order token → (reason : ℕ) → p.notice ≡ Rejected reason
      → Shape named found token p
  replaces : is_used found ≡ false → Changed named Replaced p.changed → p.changed.state ≡ dead
      → Born token named.shares.executed.0 named.token p.added → p.notice ≡ Replaced → Shape named found token p

-- the day that begins is one of the three
abbrev pub Begun : Option Begins → Type 0
Begun None = Unit {0}
Begun (Some (Day day)) = day ≤ day_closed
Begun (Some (Block place on)) = Unit {0}

-- the answers of the rules' own: not 3, which judging the entry gives, and not 9: that is asked of the ring alone, which the rules never see
abbrev pub of_rules : Answer → Bool
of_rules a = not (eqb (answer_number a) 3) && not (is_blocked a)

-- what every decision of the rules keeps
pub record Orderly (named found : Order) (token : List ℕ) (d : Decision) : Type 0 where
  pub shape : Shape named found token (plan_of d)
  pub begins : Begun (plan_of d).begins
  pub own : of_rules (answer_of d) ≡ true

-- and every one but h's: no state of a stock is set
pub record Keeps (named found : Order) (token : List ℕ) (d : Decision) : Type 0 where
  pub orderly : Orderly named found token d
  pub quiet : (plan_of d).stock ≡ None

module _ {named found : Order} {token : List ℕ} where
  pub refused-keeps : (answer : Answer) → of_rules answer ≡ true → Keeps named found token (refused answer)
  unfolding refused
  refused-keeps (Ok done) own = record { orderly = record { shape = nobody refl refl refl; begins = tt; own = own }; quiet = refl }
  refused-keeps (Err r) own = record { orderly = record { shape = nobody refl refl refl; begins = tt; own = own }; quiet = refl }

  pub beginning-keeps : (day event : ℕ) → day ≤ day_closed → Keeps named found token (beginning day event)
  unfolding beginning
  beginning-keeps day event known = record { orderly = record { shape = nobody refl refl refl; begins = known; own = refl }; quiet = refl }

  pub blocking-keeps : (place : ℕ) (on : Bool) → Keeps named found token (blocking place on)
  unfolding blocking
  blocking-keeps place on = record { orderly = record { shape = nobody refl refl refl; begins = tt; own = refl }; quiet = refl }

  pub changing-keeps : {o : Order} {notice : Notice} → Older (subject notice) → Changed named notice o → Keeps named found token (changing o notice)
  unfolding changing
  changing-keeps of h = record { orderly = record { shape = changes h refl of; begins = tt; own = refl }; quiet = refl }

  pub renumbering-keeps : {o : Order} → Changed named PriorityUpdate o → Keeps named found token (renumbering o PriorityUpdate)
  unfolding renumbering
  renumbering-keeps h = record { orderly = record { shape = changes h refl tt; begins = tt; own = refl }; quiet = refl }

  pub accepting-keeps : {new : Order} → is_used found ≡ false → Born token 0 (zeros token_size) new → Keeps named found token (accepting new)
  unfolding accepting
  accepting-keeps free h = record { orderly = record { shape = accepts free refl h refl; begins = tt; own = refl }; quiet = refl }

  pub rejecting-keeps : is_used found ≡ false → (reason : ℕ) → Keeps named found token (rejecting token reason)
  unfolding rejecting
  rejecting-keeps free reason = record { orderly = record { shape = rejects free refl refl reason refl; begins = tt; own = refl }; quiet = refl }

  pub replacing-keeps : {old new : Order} → is_used found ≡ false → Changed named Replaced old → old.state ≡ dead
      → Born token named.shares.executed.0 named.token new → Keeps named found token (replacing_by old new)
  unfolding replacing_by
  replacing-keeps free h end born = record { orderly = record { shape = replaces free h end born refl; begins = tt; own = refl }; quiet = refl }

  pub setting-orderly : (e : StockState) → Orderly named found token (setting e)
  unfolding setting
  setting-orderly e = record { shape = nobody refl refl refl; begins = tt; own = refl }

-- ---- the two orders of a plan, seen one by one

pub data Change (named : Order) (notice : Notice) (after : Order) : Type 0 where
  unchanged : after ≡ no_order → Change named notice after
  changed : Changed named notice after → Change named notice after

pub data Addition (token : List ℕ) (named new : Order) : Type 0 where
  nothing : new ≡ no_order → Addition token named new
  rejected : new ≡ rejected_order token → Addition token named new
  born : (executed : ℕ) (before : List ℕ) → Born token executed before new → Addition token named new

module _ {named found : Order} {token : List ℕ} {p : Plan} where
  pub change-of : Shape named found token p → Change named p.notice p.changed
  change-of (nobody c a n) = unchanged c
  change-of (changes c a n) = changed c
  change-of (accepts f c a n) = unchanged c
  change-of (rejects f c a r n) = unchanged c
  change-of (replaces f c d a n) = changed (rw n c)

  pub addition-of : Shape named found token p → Addition token named p.added
  addition-of (nobody c a n) = nothing a
  addition-of (changes c a n) = nothing a
  addition-of (accepts f c a n) = born 0 (zeros token_size) a
  addition-of (rejects f c a r n) = rejected a
  addition-of (replaces f c d a n) = born named.shares.executed.0 named.token a

-- ---- the changes of a live order

module _ (o : Order) (alive : is_live o ≡ true) (lives : Live o) (shaped : Shaped o) where
  -- what leaves its counts alone
  pub uncounted : (flags : ℕ) {notice : Notice} → told_executed notice ≡ 0 → Changed o notice (with_flags o flags)
  unfolding with_flags
  uncounted flags quiet =
      record {
        alive = alive;
        standing = inl lives;
        shaped = record { token = shaped.token; stock = shaped.stock; firm = shaped.firm; previous = shaped.previous };
        token = refl;
        previous = refl;
        executed = omega (arith, quiet);
        limit = omega arith;
      }

  -- what moves them
  pub recounted : (side flags : ℕ) (s : Counts) (notice : Notice) → (gone s).0 ≤ s.liable.0 → s.liable.0 ≤ most_shares
      → s.executed.0 ≡ o.shares.executed.0 + told_executed notice → (executions_plus_open s).0 ≤ (executions_plus_open o.shares).0
      → Changed o notice (dead_if_spent (with_flags (with_side o side) flags) s)
  unfolding dead_if_spent with_flags with_side
  recounted side flags s notice within most told limit =
      record {
        alive = alive;
        standing = counted (with_flags (with_side o side) flags) s (live_state o alive) within most;
        shaped = record { token = shaped.token; stock = shaped.stock; firm = shaped.firm; previous = shaped.previous };
        token = refl;
        previous = refl;
        executed = told;
        limit = limit;
      }

  pub ended : (flags : ℕ) (notice : Notice) → told_executed notice ≡ 0 → Changed o notice (killed (with_flags o flags))
  unfolding killed cut with_liable open_shares gone with_flags with_side executions_plus_open
  ended flags notice quiet =
      recounted o.side flags _ notice (omega (arith, lives.1)) (omega (arith, lives.2)) (omega (arith, quiet)) (omega (arith, lives.1))

  pub ended-dead : (flags : ℕ) → (killed (with_flags o flags)).state ≡ dead
  unfolding killed dead_if_spent cut with_liable open_shares gone with_flags
  ended-dead flags =
      let z : (o.shares.liable.0 - (o.shares.liable.0 - (o.shares.executed.0 + o.shares.matched.0))) - (o.shares.executed.0 + o.shares.matched.0) ≡ 0 =
      omega (arith, lives.1) in
      rw z
