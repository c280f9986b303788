-- The loop's invariant: the first i orders are stored, and the table is as long as it was. Assumes nothing.
use Rattle.octets.proofs.Proving.{◌≡◌}
use Rattle.convert.specs.Convert.{with_orders}
use Rattle.convert.proofs.store_orders.Given as goal

abbrev pub invariant-loop-i : goal.invariant-loop-i
invariant-loop-i l = l.table ≡ with_orders l.old l.i l.initial.table
