-- A ring with a message behind its held bytes, seen from its read place: what was held, the message, and what was there before.
-- Assumes nothing.
use Rattle.octets.proofs.Proving.{List, ◌++◌, ◌+◌, ◌<◌, ◌∙◌, ◌≡◌, ◌≤◌, ap, arith, length, sym, true, ℕ}
use Rattle.octets.specs.Bytes.{put}
use Rattle.octets.proofs.Laws.{length-put, put-put}
use Rattle.outbox.specs.Outbox.{Marks, ring_good, free_bytes, from, back, held, ring_with, marks_with}
use Rattle.outbox.proofs.Right.{right}
use Rattle.outbox.proofs.Ring.{length_from, length_back, from_back}

-- the message has a place in the ring: what every law about a put asks
pub record Fits (ring : List ℕ) (m : Marks) (message : List ℕ) : Type 0 where
  pub place : m.at < length ring
  pub room : m.held + length message ≤ length ring

pub fits-free : (ring : List ℕ) (m : Marks) (message : List ℕ) → ring_good (length ring) m ≡ true → length message ≤ free_bytes (length ring) m → Fits ring m message
unfolding free_bytes
fits-free ring m message good room = let r = right (length ring) m good in record { place = r.place; room = omega arith }

module _ (ring : List ℕ) (m : Marks) (message : List ℕ) (fits : Fits ring m message) where
  pub seen : length (from m.at ring) ≡ length ring
  seen = length_from m.at ring (omega arith)

  length-seen-with : length (put (from m.at ring) m.held message) ≡ length ring
  length-seen-with = length-put (from m.at ring) m.held message (omega (arith, seen)) ∙ seen

  pub length-with : length (ring_with ring m message) ≡ length ring
  unfolding ring_with held
  length-with = length_back m.at (put (from m.at ring) m.held message) ∙ length-seen-with

  -- what is seen from the read place afterwards: the held bytes, the message, and what was behind it
  pub from-with : from m.at (ring_with ring m message) ≡ put (from m.at ring) m.held message
  unfolding ring_with held
  from-with = from_back m.at (put (from m.at ring) m.held message) (omega (arith, length-seen-with))

-- a message in two pieces is two messages
pub with-pieces : (ring : List ℕ) (m : Marks) (x y : List ℕ) → Fits ring m x → m.held + length x + length y ≤ length ring
    → ring_with ring m (x ++ y) ≡ ring_with (ring_with ring m x) (marks_with m (length x)) y
unfolding ring_with held marks_with
with-pieces ring m x y fits h =
    sym (ap (λ (l : List ℕ). back m.at (put l (m.held + length x) y)) (from-with ring m x fits)
    ∙ ap (back m.at) (put-put (from m.at ring) m.held x y (omega (arith, seen ring m x fits))))
