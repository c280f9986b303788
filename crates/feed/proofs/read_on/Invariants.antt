-- The total only grows, and what it still may grow by is the measure. Assumes nothing.
use Rattle.octets.proofs.Proving.{◌-◌, ◌<◌, ◌^◌, ◌≡◌, ◌≤◌, length}
use Rattle.feed.proofs.read_on.Given as goal

abbrev pub invariant-loop-sum : goal.invariant-loop-sum
invariant-loop-sum g l = (length l.buffer ≡ length l.initial.buffer) × (l.initial.total ≤ l.total) × (l.total < 2 ^ 64)

abbrev pub decreases-loop-sum : goal.decreases-loop-sum
decreases-loop-sum g l = 2 ^ 64 - l.total
