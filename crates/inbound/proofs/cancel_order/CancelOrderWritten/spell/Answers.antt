-- The fields are put one by one, in the layout's order. Assumes nothing.
use Rattle.inbound.proofs.Codec.{spelled, cancel_order_bytes, ◌then◌, ends}
use Rattle.inbound.proofs.cancel_order.CancelOrderWritten.spell.Goals as goal

pub returns : goal.returns
unfolding cancel_order_bytes
returns c = spelled 2 tt c.started-t.ensures
    (c.put_text.ensures then c.put_integer.ensures then ends)
