-- The loop's invariant: each record before i is sound, and the sum is of what is open of them, each below 2 to the 32.
use Rattle.octets.proofs.Proving.{◌*◌, ◌≡◌, ◌≤◌, true}
use Rattle.octets.specs.Choice.{all_below}
use Rattle.orders.specs.Sound.{record_sound}
use Rattle.table.specs.Table.{record_bytes, sum_below, open_at}
use Rattle.table.proofs.walk.walk.Given as goal

abbrev pub invariant-loop-i : goal.invariant-loop-i
invariant-loop-i l =
    (all_below l.i (λ j. record_sound (record_bytes l.table j)) ≡ true) × (l.sum ≡ sum_below l.i (open_at l.table)) × (l.sum ≤ 4_294_967_296 * l.i)
