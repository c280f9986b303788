-- Reading and releasing, round after round, brings out every held byte in order, and two rounds do. Assumes nothing.
use Rattle.octets.proofs.Proving.{List, [], ◌++◌, ◌+◌, ◌-◌, ◌∙◌, ◌≡◌, ◌≤◌, ap, ap₂, arith, le-ltb, length, refl, suc, sym, take, take-append-drop, take-nil, true, zero, ℕ, ⊎_elim}
use Rattle.answers.specs.Answer.{Done}
use Rattle.outbox.specs.Outbox.{Marks, ring_good, around, held, read_run, release_answer, marks_without}
use Rattle.outbox.specs.Drain.{after_round, drained}
use Rattle.outbox.proofs.Right.{right}
use Rattle.outbox.proofs.Guards.{release-marks-done}
use Rattle.outbox.proofs.Held.{length_run}
use Rattle.outbox.proofs.Board.{held-count, read-is-prefix, read-stops, held-is-enough, release-drops, release-keeps-good}

module _ (ring : List ℕ) (m : Marks) (ok : ring_good (length ring) m ≡ true) where
  -- what was read can be released
  released : release_answer (length ring) m (length (read_run ring m)) ≡ Done
  released = held-is-enough (length ring) m (length (read_run ring m)) ok (omega (arith, length_run ring m ok))

  round-good : ring_good (length ring) (after_round ring m) ≡ true
  unfolding after_round
  round-good = release-keeps-good (length ring) m (length (read_run ring m)) released

  -- a round brings out the run, and leaves the rest held
  pub round : held ring m ≡ read_run ring m ++ held ring (after_round ring m)
  unfolding after_round
  round =
      sym (take-append-drop (length (read_run ring m)) (held ring m))
      ∙ ap₂ ◌++◌ (read-is-prefix ring m ok) (sym (release-drops ring m (length (read_run ring m)) released))

  next-held : (after_round ring m).held ≡ m.held - length (read_run ring m)
  unfolding after_round marks_without
  next-held = ap (λ (k : Marks). k.held) (release-marks-done (length ring) m (length (read_run ring m)) released)

  next_place : (after_round ring m).at ≡ around (length ring) (m.at + length (read_run ring m))
  unfolding after_round marks_without
  next_place = ap (λ (k : Marks). k.at) (release-marks-done (length ring) m (length (read_run ring m)) released)

-- an outbox that holds nothing: no round brings anything out
nothing-held : (ring : List ℕ) (m : Marks) → m.held ≡ 0 → held ring m ≡ []
unfolding held
nothing-held ring m empty = rw empty

drained-nothing : (rounds : ℕ) (ring : List ℕ) (m : Marks) → ring_good (length ring) m ≡ true → m.held ≡ 0 → drained rounds ring m ≡ []
unfolding drained
drained-nothing zero ring m ok empty = refl
drained-nothing (suc rounds) ring m ok empty =
    ap₂ ◌++◌
    (sym (read-is-prefix ring m ok) ∙ ap (take (length (read_run ring m))) (nothing-held ring m empty) ∙ take-nil (length (read_run ring m)))
    (drained-nothing rounds ring (after_round ring m) (round-good ring m ok) (omega (arith, next-held ring m ok)))

-- a run from the ring's start on is all that is held
start-reads-all : (ring : List ℕ) (m : Marks) → ring_good (length ring) m ≡ true → m.at ≡ 0 → length (read_run ring m) ≡ m.held
start-reads-all ring m ok start = let r = right (length ring) m ok in omega (arith, length_run ring m ok)

-- two rounds leave nothing: the first reaches the last held byte or the ring's end, and the second, from the ring's start on, the rest
pub two-rounds : (ring : List ℕ) (m : Marks) → ring_good (length ring) m ≡ true → (after_round ring (after_round ring m)).held ≡ 0
two-rounds ring m ok =
    let next = after_round ring m in
    let good = round-good ring m ok in
    ⊎_elim
    (λ all. let l : length (read_run ring m) ≡ m.held = ap length all ∙ held-count ring m ok in omega (arith, next-held ring m ok, next-held ring next good))
    (λ end.
    let past : length ring ≤ m.at + length (read_run ring m) = omega arith in
    let start : next.at ≡ 0 = next_place ring m ok ∙ simp (le-ltb _ _ past) (omega (arith, end)) in
    omega (arith, next-held ring next good, start-reads-all ring next good start))
    (read-stops ring m ok)

-- every held byte, in order, once
pub drained-is-held : (rounds : ℕ) (ring : List ℕ) (m : Marks) → ring_good (length ring) m ≡ true → drained (suc (suc rounds)) ring m ≡ held ring m
unfolding drained
drained-is-held rounds ring m ok =
    let next = after_round ring m in
    let good = round-good ring m ok in
    let last = after_round ring next in
    let empty = two-rounds ring m ok in
    sym (round ring m ok
    ∙ ap (λ (l : List ℕ). read_run ring m ++ l)
    (round ring next good
    ∙ ap (λ (l : List ℕ). read_run ring next ++ l)
    (nothing-held ring last empty ∙ sym (drained-nothing rounds ring last (round-good ring next good) empty))))
