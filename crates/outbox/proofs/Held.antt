-- What becomes of the held bytes when a message goes in and when bytes are given up, and how much of them one run is. Assumes nothing.
use Rattle.octets.proofs.Proving.{List, ◌++◌, ◌+◌, ◌-◌, ◌∙◌, ◌≡◌, ◌≤◌, ap, arith, drop, length, length-drop, length-take, length-take-le, min, sym, take, take-append-le, true, ℕ}
use Rattle.octets.proofs.Laws.{take_put}
use Rattle.outbox.specs.Outbox.{Marks, ring_good, free_bytes, from, held, ring_with, marks_with, marks_without, read_run}
use Rattle.outbox.proofs.Lists.{drop-take, take-both}
use Rattle.outbox.proofs.Ring.{length_from, from-around}
use Rattle.outbox.proofs.Right.{Right, right}
use Rattle.outbox.proofs.With.{fits-free, from-with}

module _ (ring : List ℕ) (m : Marks) (ok : ring_good (length ring) m ≡ true) where
  r : Right (length ring) m
  r = right (length ring) m ok

  seen : length (from m.at ring) ≡ length ring
  seen = length_from m.at ring (omega (arith, r))

  pub length-held : length (held ring m) ≡ m.held
  unfolding held
  length-held = length-take-le m.held (from m.at ring) (omega (arith, r, seen))

  -- a message that has room goes behind them
  pub held_with : (message : List ℕ) → length message ≤ free_bytes (length ring) m → held (ring_with ring m message) (marks_with m (length message)) ≡ held ring m ++ message
  unfolding held marks_with free_bytes
  held_with message room =
      ap (take (m.held + length message)) (from-with ring m message (fits-free ring m message ok room))
      ∙ take_put (from m.at ring) m.held message (omega (arith, r, seen))

  -- the first k are gone
  pub held-without : (k : ℕ) → k ≤ m.held → held ring (marks_without (length ring) m k) ≡ drop k (held ring m)
  unfolding held from marks_without
  held-without k enough =
      let rest : m.held - k ≤ length (drop k (from m.at ring)) = rw length-drop (omega (arith, r, seen)) in
      ap (take (m.held - k)) (from-around m.at k ring (omega (arith, r)) (omega (arith, r)))
      ∙ take-append-le (m.held - k) (drop k (from m.at ring)) (take k (from m.at ring)) rest
      ∙ sym (drop-take k m.held (from m.at ring) enough (omega (arith, r, seen)))

  -- the run that a read hands back, and what is held beyond the ring's end
  run_is : read_run ring m ≡ take m.held (drop m.at ring)
  unfolding read_run
  run_is = simp ok

  pub run-and-rest : held ring m ≡ read_run ring m ++ take (m.held - length (drop m.at ring)) (take m.at ring)
  unfolding held from
  run-and-rest = rw run_is (take-both m.held (drop m.at ring) (take m.at ring))

  pub length_run : length (read_run ring m) ≡ min m.held (length ring - m.at)
  length_run = ap length run_is ∙ length-take m.held (drop m.at ring) ∙ ap (min m.held) (length-drop m.at ring)
