-- An entry offered to an empty outbox is never blocked, and so a driver that empties the outbox after each block gets through any list.
-- Assumes nothing.
use Rattle.octets.proofs.Proving.{Bool, List, [], ◌-◌, ◌<◌, ◌∙◌, ◌∷◌, ◌≡◌, ◌≤◌, ap, ap₂, arith, eqb, eqb-true, false, false≢true, le-ltb, le_refl, length, lt-ltb, ltb-true, refl, sub_self, subst, sym, true, ℕ}
use Rattle.octets.specs.Choice.{pick}
use Rattle.answers.specs.Answer.{answer_number, is_done}
use Rattle.answers.proofs.Laws.{done-is-0}
use Rattle.tape.specs.Entries.{stamp_of}
use Rattle.notices.specs.Notices.{message}
use Rattle.outbox.specs.Outbox.{free_bytes, marks_without}
use Rattle.outbox.proofs.Right.{right}
use Rattle.outbox.proofs.Board.{held-is-enough, release-keeps-good}
use Rattle.outbox.proofs.Guards.{release-marks-done}
use Rattle.answers.specs.Answer.{Blocked}
use Rattle.outbox.specs.declared.marks.Marks.{Marks}
use Rattle.rules.specs.Plan.{answer_of, plan_of}
use Rattle.host.specs.Step.{World, Outcome, named_place, no_room, step, books_after, world_after}
use Rattle.table.proofs.Soundness.{of-sound}
use Rattle.day.specs.Day.{offer_next, release, run, emptied, patient}
use Rattle.laws.specs.Blocked.{is_blocked}
use Rattle.laws.specs.Ready.{Ready}
use Rattle.laws.proofs.Steps.{step_by, comes, full, only-done-changes}
use Rattle.day.proofs.Day.{as-judged, ring-after}
use Rattle.laws.proofs.Sounds.{keeps}
use Rattle.laws.proofs.Halted.{stays-good}
use Rattle.laws.proofs.Sent.{short}
use Rattle.laws.proofs.Comes.{unblocked}

-- ---- an empty outbox

module _ (w : World) (s : List ℕ) (ok : Ready w) (none : w.marks.held ≡ 0) where
  room : is_done (answer_of (comes w s)) ≡ true → full w s ≡ false
  unfolding no_room free_bytes
  room done =
      let r = right (length w.ring) w.marks ok.ring in
      let h : length (message (stamp_of s) (plan_of (comes w s))) ≤ length w.ring - w.marks.held =
      omega (arith, short w.books s ok.table done, r.short, none) in
      le-ltb _ _ h

  by : (done crowd : Bool) → is_done (answer_of (comes w s)) ≡ done → full w s ≡ crowd → is_blocked (step_by w s (comes w s) true true true done crowd).answer ≡ false
  by false crowd e f = unblocked w.books s (of-sound w.books.table ok.table)
  by true true e f = absurd (false≢true (sym (room e) ∙ f))
  by true false e f = refl

  pub never-blocked : is_blocked (step w s).answer ≡ false
  never-blocked = ap (λ (o : Outcome). is_blocked o.answer) (as-judged w s ok) ∙ by (is_done (answer_of (comes w s))) (full w s) refl refl

-- ---- what a step leaves behind, ready for the next

-- a sound table stays sound, right marks and a right list stay right
pub stays-ready : (w : World) (s : List ℕ) → Ready w → Ready (step w s).world
unfolding world_after books_after
stays-ready w s ok =
    subst (λ (o : Outcome). Ready o.world) (sym (as-judged w s ok)) (by_both (is_done (answer_of (comes w s))) (full w s) refl refl)
  where
    by_both : (done crowd : Bool) → is_done (answer_of (comes w s)) ≡ done → full w s ≡ crowd → Ready (step_by w s (comes w s) true true true done crowd).world
    by_both false crowd e f = ok
    by_both true true e f = ok
    by_both true false e f =
        record {
          table = keeps w.books s ok.table e;
          ring = ring-after w (named_place w.books.table s) (stamp_of s) (plan_of (comes w s)) ok.ring f;
          stocks = stays-good w.books s ok.table e ok.stocks;
        }

-- a blocked entry leaves everything as it was
pub blocked-stays : (w : World) (s : List ℕ) → is_blocked (step w s).answer ≡ true → (step w s).world ≡ w
blocked-stays w s b =
    let e = eqb-true (answer_number (step w s).answer) (answer_number Blocked) b in
    only-done-changes w s (done-is-0 (step w s).answer ∙ ap (λ (n : ℕ). eqb n 0) e)

-- ---- a driver that empties the outbox after each block

module _ (w : World) (ok : Ready w) where
  ready-emptied : Ready (emptied w)
  unfolding emptied
  ready-emptied =
      record {
        table = ok.table;
        ring = release-keeps-good (length w.ring) w.marks w.marks.held (held-is-enough (length w.ring) w.marks w.marks.held ok.ring (le_refl w.marks.held));
        stocks = ok.stocks;
      }

  none-held : (emptied w).marks.held ≡ 0
  unfolding emptied marks_without
  none-held =
      ap (λ (m : Marks). m.held)
      (release-marks-done (length w.ring) w.marks w.marks.held
      (held-is-enough (length w.ring) w.marks w.marks.held ok.ring (le_refl w.marks.held)))
      ∙ sub_self w.marks.held

-- it gets through any list: a schedule exists
pub patient-through : (ss : List (List ℕ)) (w : World) → Ready w → (run w ss (patient w ss)).left ≡ []
unfolding patient run emptied
patient-through [] w ok = refl
patient-through (s ∷ ss) w ok =
    by (is_blocked (step w s).answer) refl (patient-through ss (step w s).world (stays-ready w s ok))
    (patient-through ss (step (emptied w) s).world (stays-ready (emptied w) s (ready-emptied w ok)))
  where
    again : is_blocked (step w s).answer ≡ true → (run (step (emptied w) s).world ss (patient (step (emptied w) s).world ss)).left ≡ []
        → (run (emptied w) (s ∷ ss) (offer_next ∷ patient (step (emptied w) s).world ss)).left ≡ []
    again e later = rw (never-blocked (emptied w) s (ready-emptied w ok) (none-held w ok)) later

    by : (b : Bool) → is_blocked (step w s).answer ≡ b → (run (step w s).world ss (patient (step w s).world ss)).left ≡ []
        → (run (step (emptied w) s).world ss (patient (step (emptied w) s).world ss)).left ≡ []
        → (run w (s ∷ ss) (pick b (offer_next ∷ release w.marks.held ∷ offer_next ∷ patient (step (emptied w) s).world ss) (offer_next ∷ patient (step w s).world ss))).left ≡ []
    by false e now later = rw e now
    by true e now later = rw (e, blocked-stays w s e) (again e later)

-- ---- when an entry is blocked

-- the answer is 9 exactly when all else is well and the message is longer than the room
module _ (w : World) (s : List ℕ) (ok : Ready w) where
  abbrev Crowded : Type 0
  Crowded =
      (is_done (answer_of (comes w s)) ≡ true)
      × (free_bytes (length w.ring) w.marks < length (message (stamp_of s) (plan_of (comes w s))))

  crowded : (done crowd : Bool) → is_done (answer_of (comes w s)) ≡ done → full w s ≡ crowd
      → is_blocked (step_by w s (comes w s) true true true done crowd).answer ≡ true → Crowded
  unfolding no_room
  crowded false crowd e f b = absurd (false≢true (sym (unblocked w.books s (of-sound w.books.table ok.table)) ∙ b))
  crowded true true e f b = (e, ltb-true _ _ f)
  crowded true false e f b = absurd (false≢true b)

  pub blocked-only : is_blocked (step w s).answer ≡ true → Crowded
  blocked-only b =
      crowded (is_done (answer_of (comes w s))) (full w s) refl refl
      (ap (λ (o : Outcome). is_blocked o.answer) (sym (as-judged w s ok)) ∙ b)

  pub crowded-blocked : Crowded → is_blocked (step w s).answer ≡ true
  unfolding no_room
  crowded-blocked c =
      ap (λ (o : Outcome). is_blocked o.answer) (as-judged w s ok)
      ∙ ap₂ (λ (x y : Bool). is_blocked (step_by w s (comes w s) true true true x y).answer) c.0 (lt-ltb _ _ c.1)
