-- What a Cancel does to the orders: what its rule leaves of the one that it names stands in that one's record, and every other record is as it
-- was. Assumes nothing.
use Rattle.octets.proofs.Proving.{List, ◌+◌, ◌<◌, ◌∙◌, ◌≡◌, ◌≤◌, ap, arith, false, false≢true, guard, le-ltb, refl, subst, sym, true, ℕ}
use Rattle.answers.specs.Answer.{is_done}
use Rattle.wire.specs.Shares.{total, ◌equals◌}
use Rattle.orders.specs.Counts.{gone, open_shares, with_liable}
use Rattle.orders.specs.Order.{is_live, is_used, ◌is◌, marked, with_flags, dead_if_spent}
use Rattle.orders.specs.declared.flags.Flag.TheVariants.{Late, RejectSent}
use Rattle.table.specs.Table.{header, order_at, order_from, sound}
use Rattle.table.proofs.Soundness.{of-sound}
use Rattle.tape.specs.Kinds.{kind_of}
use Rattle.tape.specs.Entries.{entry_answer, cancel_of}
use Rattle.rules.specs.Plan.{answer_of, plan_of, ignored, refused, changing}
use Rattle.rules.specs.Cancel.{new_open, cancel_ignored, canceled_order, late_cancel, cancel_rule}
use Rattle.rules.proofs.Heard.{cancel-live, cancel-smaller}
use Rattle.host.specs.Step.{World, decide_by, decide, within_limits, comes_to, settle, offer, books_after, world_after, step}
use Rattle.laws.specs.Cancels.{executions_plus_open, ReachesRules, its_place, CutsDown}
use Rattle.laws.proofs.Types.{Done, Order, Total, CancelOrder, Decision, Cancels}
use Rattle.laws.proofs.Standing.{live_state, spent-used}
use Rattle.laws.proofs.Given.{from_is, live-there}
use Rattle.laws.proofs.Comes.{decided-by}
use Rattle.laws.proofs.Sounds.{S, P, p}
use Rattle.laws.proofs.Records.{Face, open_in, face, face_at, left, written, left-used, changed-face, earlier-face, each-record}
use Rattle.laws.proofs.Steps.{Does, done-does, either, records-after-step}

-- ---- the rule

-- what a done Cancel leaves: a late order has another flag, and any other is cut down
data Left (o : Order) (size : Total) (o' : Order) : Type 0 where
  waits : (o is Late) ≡ true → (flags : ℕ) → o' ≡ with_flags o flags → Left o size o'
  cuts : (o is Late) ≡ false → o' ≡ canceled_order o size → Left o size o'

record Obeys (o : Order) (size : Total) (o' : Order) : Type 0 where
  heard : cancel_ignored o size ≡ false
  leaves : Left o size o'

obeys : (o : Order) (e : CancelOrder) → is_done (answer_of (cancel_rule o e)) ≡ true → Obeys o e.size (plan_of (cancel_rule o e)).changed
unfolding cancel_rule late_cancel refused changing marked is_done
obeys o e =
    guard From (cancel_ignored o e.size) (λ _ d. absurd (false≢true d)) λ heard.
    guard From (o is Late)
    (λ late.
    guard From (e.size equals total 0) (λ _ _. record { heard = heard; leaves = waits late _ refl }) λ _.
    guard From (o is RejectSent) (λ _ d. absurd (false≢true d)) λ _ _. record { heard = heard; leaves = waits late _ refl }) λ prompt _.
    record { heard = heard; leaves = cuts prompt refl }
  where
    From : Decision → Type 0
    From d = is_done (answer_of d) ≡ true → Obeys o e.size (plan_of d).changed

-- a size at or above executed + open is ignored
above-ignored : (o : Order) (e : CancelOrder) → (executions_plus_open o.shares).0 ≤ e.size.0 → cancel_rule o e ≡ ignored
unfolding cancel_rule executions_plus_open new_open
above-ignored o e above =
    guard (λ (d : Decision). d ≡ ignored) (cancel_ignored o e.size) (λ _. refl) λ heard.
    absurd (omega (arith, cancel-smaller o e.size heard))

module _ (o : Order) (size : Total) {o' : Order} (done : Obeys o size o') where
  alive : is_live o ≡ true
  alive = cancel-live o size done.heard

  smaller : (new_open o size).0 < (open_shares o.shares).0
  smaller = cancel-smaller o size done.heard

  -- it has a record still
  stays-used : is_used o' ≡ true
  unfolding is_used with_flags canceled_order
  stays-used = by done.leaves
    where
      by : Left o size o' → is_used o' ≡ true
      by (waits _ flags same) = ap is_used same ∙ rw (live_state o alive)
      by (cuts _ same) = ap is_used same ∙ spent-used o _ (live_state o alive)

  -- neither what is open nor liable rises
  record Falls : Type 0 where
    open-falls : (open_shares o'.shares).0 ≤ (open_shares o.shares).0
    liable-falls : o'.shares.liable.0 ≤ o.shares.liable.0

  falls : Falls
  unfolding with_flags canceled_order dead_if_spent open_shares with_liable gone
  falls = by done.leaves
    where
      by : Left o size o' → Falls
      by (waits _ flags same) = record { open-falls = rw same (omega arith); liable-falls = rw same (omega arith) }
      by (cuts _ same) = record { open-falls = rw same (omega (arith, smaller)); liable-falls = rw same (omega (arith, smaller)) }

  -- what is open then, if anything, fills up the size
  fills_up : (o is Late) ≡ false → 0 < (open_shares o'.shares).0 → executions_plus_open o'.shares ≡ size
  unfolding executions_plus_open canceled_order dead_if_spent open_shares with_liable gone new_open
  fills_up prompt = by done.leaves
    where
      by : Left o size o' → 0 < (open_shares o'.shares).0 → executions_plus_open o'.shares ≡ size
      by (waits late flags same) = λ some. absurd (false≢true (sym prompt ∙ late))
      by (cuts _ same) = rw same (λ some. ap total (omega (arith, some)))

-- ---- the table

module _ (w : World) (s : List ℕ) (cancels : kind_of s ≡ Cancels) where
  abbrev t : List ℕ
  t = w.books.table

  abbrev t' : List ℕ
  t' = (step w s).world.books.table

  abbrev at : ℕ
  at = its_place w s

  abbrev size : Total
  size = (cancel_of s).size

  abbrev o : Order
  o = order_from t at

  decided : sound t ≡ true → entry_answer s ≡ Done → decide w.books s ≡ cancel_rule o (cancel_of s)
  unfolding decide_by
  decided ok legal = decided-by w.books s (of-sound t ok) legal Cancels cancels

  -- what is done
  module _ (does : Does w s (step w s)) where
    abbrev ok : sound t ≡ true
    ok = does.ready.table

    abbrev done : is_done (answer_of (comes_to w.books s)) ≡ true
    done = does.comes-done

    abbrev o' : Order
    o' = (p w.books s ok done).changed

    obeyed : Obeys o size o'
    obeyed =
        let rule = decided ok (P w.books s ok done).legal in
        subst (λ (d : Decision). Obeys o size (plan_of d).changed) (sym rule)
        (obeys o (cancel_of s) (ap (λ (d : Decision). is_done (answer_of d)) (sym ((P w.books s ok done).is ∙ rule)) ∙ done))

    there : at < (header t).used
    there = omega (arith, live-there t at (alive o size obeyed), (S w.books s ok done).used)

    is-named : o ≡ order_at t at
    is-named = from_is t at (live-there t at (alive o size obeyed))

    after_is : t' ≡ left w.books s ok done
    unfolding world_after books_after
    after_is = ap (λ (x : World). x.books.table) does.world ∙ written w.books s ok done

    becomes : face_at t' at ≡ face o'
    becomes =
        ap (λ (u : List ℕ). face_at u at) after_is
        ∙ earlier-face w.books s ok done at there
        ∙ changed-face w.books s ok done (stays-used o size obeyed)

    -- what does not rise of the named order rises of none
    falls-everywhere : (f : Face → ℕ) → f (face o') ≤ f (face o) → (i : ℕ) → i < (header t).used → f (face_at t' i) ≤ f (face_at t i)
    falls-everywhere f lower i l =
        subst (λ (u : List ℕ). f (face_at u i) ≤ f (face_at t i)) (sym after_is)
        (each-record w.books s ok done (λ x y. f y ≤ f x) (λ x. omega arith) (λ _. lower) i l)

    pub still-there : at < (header t').used
    still-there = omega (arith, there, ap (λ (u : List ℕ). (header u).used) after_is, left-used w.books s ok done)

    some-open : is_live (order_at t' at) ≡ true → (open_shares o'.shares).0 ≡ 0 → ⊥
    unfolding open_shares gone
    some-open living none =
        (records-after-step w s ok at still-there).spent (ap open_in becomes ∙ none) (live_state (order_at t' at) living)

    fills : (order_at t at is Late) ≡ false → is_live (order_at t' at) ≡ true → executions_plus_open (order_at t' at).shares ≡ size
    unfolding executions_plus_open open_shares gone
    fills prompt living =
        ap (λ (f : Face). total (f.executed + open_in f)) becomes
        ∙ fills_up o size obeyed (ap (λ (q : Order). q is Late) is-named ∙ prompt) (omega (arith, some-open living))

  -- what is ignored
  comes-ignored : ReachesRules w s → (executions_plus_open o.shares).0 ≤ size.0 → comes_to w.books s ≡ ignored
  unfolding comes_to within_limits refused is_done
  comes-ignored h above =
      rw (h.legal, le-ltb _ _ h.in-time, decided h.ready.table h.legal ∙ above-ignored o (cancel_of s) above)

  pub cuts-down : CutsDown w s
  unfolding open_shares gone step offer settle refused is_done
  cuts-down =
      record {
        open-not-raised = λ i l. either w s (λ e. omega (arith, ap (λ (x : World). open_in (face_at x.books.table i)) e))
            λ _ d. falls-everywhere d open_in (falls o size (obeyed d)).open-falls i l;
        liable-not-raised = λ i l. either w s (λ e. omega (arith, ap (λ (x : World). (face_at x.books.table i).liable) e))
            λ _ d. falls-everywhere d (λ (f : Face). f.liable) (falls o size (obeyed d)).liable-falls i l;
        limited = λ x. fills (done-does w s (ap is_done x.done)) x.not_late x.alive;
        no-smaller = λ h above. rw (h.ready.table, h.ready.ring, h.ready.stocks, comes-ignored h above);
      }
