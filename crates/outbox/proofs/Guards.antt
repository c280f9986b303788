-- A put and a release ask the same two questions in the same order: is the ring right, and is it too much? What passes both is done,
-- and what doesn't changes nothing. Assumes nothing.
use Rattle.octets.proofs.Proving.{Bool, List, ◌∙◌, ◌≡◌, ◌≤◌, ap, false, le-ltb, length, ltb, ltb-false, not, refl, sym, true, ℕ}
use Rattle.octets.specs.Choice.{first_of◌, ◌⇒◌⨾◌}
use Rattle.answers.specs.Answer.{is_done, if_done}
use Rattle.answers.specs.Answer.{Answer}
use Rattle.answers.specs.Answer.{Done, WrongRing, Blocked, NotHeld}
use Rattle.outbox.specs.Outbox.{Marks, ring_good, free_bytes, put_answer, put_marks, put_ring, marks_with, ring_with, release_answer, release_marks, marks_without}

abbrev guarded : Bool → Bool → Answer → Answer
guarded right too_much refusal =
    first_of
    not right ⇒ WrongRing
    ⨾ too_much ⇒ refusal
    ⨾ Done

-- what is done has passed both
passed : (right too_much : Bool) (refusal : Answer) → is_done refusal ≡ false → guarded right too_much refusal ≡ Done → (right ≡ true) × (too_much ≡ false)
unfolding is_done
passed true false refusal r e = (refl, refl)
passed true true refusal r e = let z : true ≡ false = sym (ap is_done e) ∙ r in (refl, z)
passed false too_much refusal r e = let z : false ≡ true = ap is_done e in (z, cc)

-- and what has not changes nothing
refused : {A : Type 0} (right too_much : Bool) (refusal : Answer) → is_done refusal ≡ false → (after before : A)
    → (guarded right too_much refusal ≡ Done → ⊥) → if_done (guarded right too_much refusal) after before ≡ before
unfolding if_done is_done
refused true false refusal r after before e = absurd (e refl)
refused true true refusal r after before e = simp r
refused false too_much refusal r after before e = refl

module _ (n : ℕ) (m : Marks) (size : ℕ) where
  pub put-passes : ring_good n m ≡ true → size ≤ free_bytes n m → put_answer n m size ≡ Done
  unfolding put_answer
  put-passes ok room = simp (ok, le-ltb _ _ room)

  pub put-passed : put_answer n m size ≡ Done → (ring_good n m ≡ true) × (size ≤ free_bytes n m)
  unfolding put_answer is_done
  put-passed done = let p = passed (ring_good n m) _ Blocked refl done in (p.0, ltb-false _ _ p.1)

  pub put-marks-done : put_answer n m size ≡ Done → put_marks n m size ≡ marks_with m size
  unfolding put_marks if_done is_done
  put-marks-done done = simp done

  pub put-marks-refused : (put_answer n m size ≡ Done → ⊥) → put_marks n m size ≡ m
  unfolding put_marks put_answer is_done
  put-marks-refused kept = refused (ring_good n m) (ltb (free_bytes n m) size) Blocked refl (marks_with m size) m kept

  pub release-passes : ring_good n m ≡ true → size ≤ m.held → release_answer n m size ≡ Done
  unfolding release_answer
  release-passes ok enough = simp (ok, le-ltb _ _ enough)

  pub release-passed : release_answer n m size ≡ Done → (ring_good n m ≡ true) × (size ≤ m.held)
  unfolding release_answer is_done
  release-passed done = let p = passed (ring_good n m) _ NotHeld refl done in (p.0, ltb-false _ _ p.1)

  pub release-marks-done : release_answer n m size ≡ Done → release_marks n m size ≡ marks_without n m size
  unfolding release_marks if_done is_done
  release-marks-done done = simp done

  pub release-marks-refused : (release_answer n m size ≡ Done → ⊥) → release_marks n m size ≡ m
  unfolding release_marks release_answer is_done
  release-marks-refused kept = refused (ring_good n m) (ltb m.held size) NotHeld refl (marks_without n m size) m kept

module _ (ring : List ℕ) (m : Marks) (message : List ℕ) where
  pub put-ring-done : put_answer (length ring) m (length message) ≡ Done → put_ring ring m message ≡ ring_with ring m message
  unfolding put_ring if_done is_done
  put-ring-done done = simp done

  pub put-ring-refused : (put_answer (length ring) m (length message) ≡ Done → ⊥) → put_ring ring m message ≡ ring
  unfolding put_ring put_answer is_done
  put-ring-refused kept =
      refused (ring_good (length ring) m) (ltb (free_bytes (length ring) m) (length message)) Blocked refl (ring_with ring m message) ring kept
