-- Each field is read at its layout's offset.
use Rattle.orders.specs.Order.{order_of}
use Rattle.orders.proofs.record.order_of.Goals as goal

pub returns : goal.returns
unfolding order_of
returns c = rw (c.byte_at.ensures, c.bytes_at.ensures, c.byte_at-2.ensures, c.counts_of.ensures, c.byte_at-3.ensures, c.details_of.ensures)
