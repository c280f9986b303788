-- What was read lies in the buffer, and the room that is left is the measure. Assumes nothing.
use Rattle.octets.proofs.Proving.{◌-◌, ◌≤◌, length}
use Rattle.show.proofs.read_full.Given as goal

abbrev pub invariant-loop-n : goal.invariant-loop-n
invariant-loop-n l = l.done ≤ length l.buffer

abbrev pub decreases-loop-n : goal.decreases-loop-n
decreases-loop-n l = length l.initial.buffer - l.done
