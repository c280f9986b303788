-- The laws of the outbox, as a maintainer would write them on the board: about what the functions promise, for all rings, marks and
-- messages. Assumes nothing.
use Rattle.octets.proofs.Proving.{Bool, List, [], ◌++◌, ◌+◌, ◌-◌, ◌<◌, ◌∙◌, ◌≡◌, ◌≤◌, ◌⊎◌, ap, ap₂, arith, dec_le, drop, false, get_or, inl, inr, length, refl, sym, take, take_all, take-append_seam, true, ℕ}
use Rattle.octets.specs.Bytes.{part}
use Rattle.octets.specs.Choice.{pick}
use Rattle.answers.specs.Answer.{Done}
use Rattle.outbox.specs.Outbox.{Marks, ring_good, free_bytes, held, message_place, put_answer, put_ring, put_marks, read_run, release_answer, release_marks}
use Rattle.outbox.specs.Place.{read_place}
use Rattle.outbox.proofs.Lists.{take-taken}
use Rattle.outbox.proofs.Right.{right, good-with, good-without}
use Rattle.outbox.proofs.Guards as guards
use Rattle.outbox.proofs.With.{Fits, fits-free, length-with}
use Rattle.outbox.proofs.Bytes.{byte-of-message, byte-elsewhere}
use Rattle.outbox.proofs.Held.{length-held, held_with, held-without, run-and-rest, length_run}

-- ---- holding

-- The held count is what is held. (A made-up count breaks this.)
pub held-count : (ring : List ℕ) (m : Marks) → ring_good (length ring) m ≡ true → length (held ring m) ≡ m.held
held-count = length-held

-- ---- putting

module _ (n : ℕ) (m : Marks) (size : ℕ) (ok : ring_good n m ≡ true) where
  -- A message of at most the free room is never turned away.
  pub room-is-enough : size ≤ free_bytes n m → put_answer n m size ≡ Done
  room-is-enough = guards.put-passes n m size ok

  -- An empty outbox takes any message up to the ring's length.
  pub empty-takes-all : m.held ≡ 0 → size ≤ n → put_answer n m size ≡ Done
  unfolding free_bytes
  empty-takes-all empty h = room-is-enough (omega arith)

module _ (ring : List ℕ) (m : Marks) (message : List ℕ) where
  -- A message that is turned away changes no byte and moves no mark.
  pub refused-put-changes-nothing : (put_answer (length ring) m (length message) ≡ Done → ⊥)
      → (put_ring ring m message ≡ ring) × (put_marks (length ring) m (length message) ≡ m)
  refused-put-changes-nothing kept = (guards.put-ring-refused ring m message kept, guards.put-marks-refused (length ring) m (length message) kept)

  module _ (done : put_answer (length ring) m (length message) ≡ Done) where
    ok : ring_good (length ring) m ≡ true
    ok = (guards.put-passed (length ring) m (length message) done).0

    room : length message ≤ free_bytes (length ring) m
    room = (guards.put-passed (length ring) m (length message) done).1

    fits : Fits ring m message
    fits = fits-free ring m message ok room

    -- A put appends exactly the message to what is held: nothing is dropped to make room, and nothing of the message is left out.
    pub put-appends : held (put_ring ring m message) (put_marks (length ring) m (length message)) ≡ held ring m ++ message
    put-appends =
        ap₂ held (guards.put-ring-done ring m message done) (guards.put-marks-done (length ring) m (length message) done)
        ∙ held_with ring m ok message room

    -- The message's bytes stand at the message's places,
    pub put-writes : (j : ℕ) → j < length message → get_or (put_ring ring m message) (message_place (length ring) m j) 0 ≡ get_or message j 0
    put-writes j h =
        ap (λ (l : List ℕ). get_or l (message_place (length ring) m j) 0) (guards.put-ring-done ring m message done)
        ∙ byte-of-message ring m message fits j h

    -- and no byte at any other place changes.
    pub put-spares : (i : ℕ) → i < length ring → ((j : ℕ) → j < length message → i ≡ message_place (length ring) m j → ⊥) → get_or (put_ring ring m message) i 0 ≡ get_or ring i 0
    put-spares i h away =
        ap (λ (l : List ℕ). get_or l i 0) (guards.put-ring-done ring m message done) ∙ byte-elsewhere ring m message fits i h away

    -- The ring keeps its length,
    pub put-keeps-length : length (put_ring ring m message) ≡ length ring
    put-keeps-length = ap length (guards.put-ring-done ring m message done) ∙ length-with ring m message fits

    -- and right marks stay right.
    pub put-keeps-good : ring_good (length (put_ring ring m message)) (put_marks (length ring) m (length message)) ≡ true
    put-keeps-good =
        ap₂ ring_good put-keeps-length (guards.put-marks-done (length ring) m (length message) done)
        ∙ good-with (length ring) m ok (length message) room

-- ---- reading

-- Over a wrong length or wrong marks nothing is read.
pub wrong-reads-nothing : (ring : List ℕ) (m : Marks) → ring_good (length ring) m ≡ false → read_run ring m ≡ []
unfolding read_run
wrong-reads-nothing ring m wrong = simp wrong

module _ (ring : List ℕ) (m : Marks) where
  -- What is read is a part of the ring: its bytes from one place on, one behind the other,
  pub read-is-part : read_run ring m ≡ part ring (read_place (length ring) m) (length (read_run ring m))
  unfolding read_run read_place
  read-is-part = go (ring_good (length ring) m)
    where
      go : (b : Bool) → pick b (take m.held (drop m.at ring)) [] ≡ part ring (pick b m.at 0) (length (pick b (take m.held (drop m.at ring)) []))
      go true = sym (take-taken m.held (drop m.at ring))
      go false = refl

  -- up to the ring's end at most.
  pub read-is-within : read_place (length ring) m + length (read_run ring m) ≤ length ring
  unfolding read_place
  read-is-within = go (ring_good (length ring) m) refl
    where
      go : (b : Bool) → ring_good (length ring) m ≡ b → pick b m.at 0 + length (read_run ring m) ≤ length ring
      go true ok = omega (arith, right (length ring) m ok, length_run ring m ok)
      go false wrong = rw (wrong-reads-nothing ring m wrong) (omega arith)

module _ (ring : List ℕ) (m : Marks) (ok : ring_good (length ring) m ≡ true) where
  -- What is read is a beginning of what is held,
  pub read-is-prefix : take (length (read_run ring m)) (held ring m) ≡ read_run ring m
  read-is-prefix = ap (take (length (read_run ring m))) (run-and-rest ring m ok) ∙ take-append_seam (read_run ring m) _

  -- and no longer one stays within the ring.
  pub read-is-longest : (l : ℕ) → l ≤ m.held → m.at + l ≤ length ring → l ≤ length (read_run ring m)
  read-is-longest l within inside = omega (arith, length_run ring m ok)

  -- So it is all that is held, or it ends where the ring ends.
  pub read-stops : (read_run ring m ≡ held ring m) ⊎ (m.at + length (read_run ring m) ≡ length ring)
  read-stops =
      let r = right (length ring) m ok in
      elim (dec_le m.held (length ring - m.at)) [
        | yes whole ↦ inl (sym read-is-prefix ∙ take_all (length (read_run ring m)) (held ring m) (omega (arith, length_run ring m ok, held-count ring m ok)))
        | no broken ↦ inr (omega (arith, length_run ring m ok))
      ]

  -- Where something is held, something is read.
  pub read-something : 0 < m.held → 0 < length (read_run ring m)
  read-something h = let r = right (length ring) m ok in omega (arith, length_run ring m ok)

-- ---- releasing

module _ (n : ℕ) (m : Marks) (k : ℕ) where
  -- A release of at most what is held is never refused.
  pub held-is-enough : ring_good n m ≡ true → k ≤ m.held → release_answer n m k ≡ Done
  held-is-enough = guards.release-passes n m k

  -- A release that is refused moves no mark.
  pub refused-release-changes-nothing : (release_answer n m k ≡ Done → ⊥) → release_marks n m k ≡ m
  refused-release-changes-nothing = guards.release-marks-refused n m k

  -- Right marks stay right.
  pub release-keeps-good : release_answer n m k ≡ Done → ring_good n (release_marks n m k) ≡ true
  release-keeps-good done =
      let p = guards.release-passed n m k done in
      ap (ring_good n) (guards.release-marks-done n m k done) ∙ good-without n m p.0 k p.1

-- A release drops exactly k bytes from the front of what is held.
pub release-drops : (ring : List ℕ) (m : Marks) (k : ℕ) → release_answer (length ring) m k ≡ Done
    → held ring (release_marks (length ring) m k) ≡ drop k (held ring m)
release-drops ring m k done =
    let p = guards.release-passed (length ring) m k done in
    ap (held ring) (guards.release-marks-done (length ring) m k done) ∙ held-without ring m p.0 k p.1
