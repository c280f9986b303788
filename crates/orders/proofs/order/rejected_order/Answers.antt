-- Beside state and token it is no order, whose counts and details are zeros. Assumes nothing.
use Rattle.octets.specs.Bytes.{number_of, number_from}
use Rattle.orders.specs.Counts.{new_counts}
use Rattle.orders.specs.Order.{no_order, order_of, rejected_order}
use Rattle.orders.proofs.order.rejected_order.Goals as goal

pub returns : goal.returns
unfolding rejected_order no_order order_of number_of number_from new_counts
returns c = rw c.no_order.ensures
