-- What a right ring is, as four facts, and that it stays right. A test of the ring that came out true is read here and nowhere else.
-- Assumes nothing.
use Rattle.octets.proofs.Proving.{Bool, ◌&&◌, ◌+◌, ◌<◌, ◌≡◌, ◌≤◌, arith, false, le-leb, leb-true, lt-ltb, ltb-true, refl, true, ℕ}
use Rattle.outbox.specs.Limits.{shortest_ring, longest_ring}
use Rattle.outbox.specs.Outbox.{Marks, ring_good, free_bytes, marks_with, marks_without}
use Rattle.outbox.proofs.Ring.{around-below}

pub record Right (n : ℕ) (m : Marks) : Type 0 where
  pub short : shortest_ring ≤ n
  pub long : n ≤ longest_ring
  pub place : m.at < n
  pub count : m.held ≤ n

both : (a b : Bool) → a && b ≡ true → (a ≡ true) × (b ≡ true)
both true b h = (refl, h)
both false b h = (h, cc)

pub right : (n : ℕ) (m : Marks) → ring_good n m ≡ true → Right n m
unfolding ring_good
right n m good =
    let a = both _ _ good in
    let b = both _ _ a.1 in
    let c = both _ _ b.1 in
    let d = both _ _ c.1 in
    record { short = leb-true _ _ a.0; long = leb-true _ _ b.0; place = ltb-true _ _ c.0; count = leb-true _ _ d.0 }

pub good : (n : ℕ) (m : Marks) → Right n m → ring_good n m ≡ true
unfolding ring_good
good n m r = simp (le-leb _ _ r.short, le-leb _ _ r.long, lt-ltb _ _ r.place, le-leb _ _ r.count)

module _ (n : ℕ) (m : Marks) (ok : ring_good n m ≡ true) (size : ℕ) where
  pub good-with : size ≤ free_bytes n m → ring_good n (marks_with m size) ≡ true
  unfolding marks_with free_bytes
  good-with room =
      let r = right n m ok in
      good n (marks_with m size) (record { short = r.short; long = r.long; place = r.place; count = omega arith })

  pub good-without : size ≤ m.held → ring_good n (marks_without n m size) ≡ true
  unfolding marks_without
  good-without enough =
      let r = right n m ok in
      good n (marks_without n m size)
      (record { short = r.short; long = r.long; place = around-below n (m.at + size) (omega arith); count = omega arith })
