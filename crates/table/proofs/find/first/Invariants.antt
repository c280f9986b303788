-- The loop's invariant: the first record with the token is still ahead. The measure is what is left of n.
use Rattle.octets.proofs.Proving.{◌-◌, ◌≤◌}
use Rattle.octets.proofs.First.{Ahead}
use Rattle.table.specs.Table.{has_token}
use Rattle.table.proofs.find.first.Given as goal

abbrev pub invariant-loop-i : goal.invariant-loop-i
invariant-loop-i l = (l.i ≤ l.n) × Ahead l.n (has_token l.table l.token) l.i

abbrev pub decreases-loop-i : goal.decreases-loop-i
decreases-loop-i l = l.n - l.i
