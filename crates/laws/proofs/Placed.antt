-- What a step's place says of the entry, from what judging it says. Assumes nothing.
use Rattle.octets.proofs.Proving.{List, ◌≡◌, arith, guard, length, not, not-false, ℕ}
use Rattle.answers.specs.Answer.{is_done}
use Rattle.wire.proofs.Told.{place-with-3}
use Rattle.outbox.specs.Outbox.{ring_good}
use Rattle.table.specs.Table.{sound}
use Rattle.stocks.specs.Stocks.{list_good}
use Rattle.table.proofs.Soundness.{of-sound}
use Rattle.tape.specs.Entries.{stamp_of, entry_answer}
use Rattle.tape.proofs.Judged.{entry-judged, bad-from-1}
use Rattle.rules.specs.Plan.{answer_of, plan_of}
use Rattle.host.specs.Step.{World, Outcome, named_place, comes_to, no_room, carried_out, settle, offer, step}
use Rattle.laws.specs.Ready.{Ready}
use Rattle.laws.specs.Places.{TellsPlace}
use Rattle.laws.proofs.Types.{BadField, Decision}
use Rattle.laws.proofs.Comes.{comes-bad, bad-comes}

module _ (w : World) (s : List ℕ) (at : ℕ) where
  abbrev Bad : Outcome → Type 0
  Bad o = o.answer ≡ BadField at

  -- the ring answers 9 or nothing
  settled-bad : (place stamp : ℕ) (d : Decision) → Bad (settle w place stamp d) → answer_of d ≡ BadField at
  unfolding settle carried_out
  settled-bad place stamp d =
      guard From (is_done (answer_of d))
      (λ _. guard From (no_room w stamp (plan_of d)) (λ _ e. let z : ◌≡◌ {A = ℕ} 0 1 = cc in absurd (omega arith)) λ _ e. let z : ◌≡◌ {A = ℕ} 0 1 = cc in absurd (omega arith))
      λ _ e. e
    where
      From : Outcome → Type 0
      From o = Bad o → answer_of d ≡ BadField at

  pub step-bad : Bad (step w s) → Ready w × (entry_answer s ≡ BadField at)
  unfolding step offer
  step-bad =
      guard From (not (sound w.books.table)) (λ _ e. let z : ◌≡◌ {A = ℕ} 0 1 = cc in absurd (omega arith)) λ good.
      guard From (not (ring_good (length w.ring) w.marks)) (λ _ e. let z : ◌≡◌ {A = ℕ} 0 1 = cc in absurd (omega arith)) λ right.
      guard From (not (list_good w.books.stocks)) (λ _ e. let z : ◌≡◌ {A = ℕ} 0 1 = cc in absurd (omega arith)) λ list e.
      let ok = not-false _ good in (
        record { table = ok; ring = not-false _ right; stocks = not-false _ list },
        comes-bad w.books s (of-sound w.books.table ok) at (settled-bad (named_place w.books.table s) (stamp_of s) (comes_to w.books s) e),
      )
    where
      From : Outcome → Type 0
      From o = Bad o → Ready w × (entry_answer s ≡ BadField at)

  pub bad-step : Ready w → entry_answer s ≡ BadField at → Bad (step w s)
  unfolding step offer settle is_done
  bad-step ready bad = rw (ready.table, ready.ring, ready.stocks, bad-comes w.books s at bad)

pub tells-place : (w : World) (s : List ℕ) → TellsPlace w s
tells-place w s = record {
  bad-field = λ at. (
    λ e.
        let b = step-bad w s at e in
        let j = ((entry-judged s).bad-field at).0 b.1 in
        ((b.0, j.0), j.1),
    λ h. bad-step w s at h.0.0 (((entry-judged s).bad-field at).1 (h.0.1, h.1)),
  );
  place-0 = place-with-3 (step w s).answer (λ at e. bad-from-1 s at (step-bad w s at e).1);
}
