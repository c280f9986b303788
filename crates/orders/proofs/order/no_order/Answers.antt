-- An order of no record is read from zeros. Assumes nothing.
use Rattle.octets.specs.Bytes.{number_of, number_from}
use Rattle.orders.specs.Counts.{new_counts}
use Rattle.orders.specs.Order.{no_order, order_of}
use Rattle.orders.proofs.order.no_order.Goals as goal

pub returns : goal.returns
unfolding no_order order_of number_of number_from new_counts
returns c = rw c.new_counts.ensures
