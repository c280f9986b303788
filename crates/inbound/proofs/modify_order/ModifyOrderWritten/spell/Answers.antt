-- The fields are put one by one, in the layout's order. Assumes nothing.
use Rattle.inbound.proofs.Codec.{spelled, modify_order_bytes, ◌then◌, ends}
use Rattle.inbound.proofs.modify_order.ModifyOrderWritten.spell.Goals as goal

pub returns : goal.returns
unfolding modify_order_bytes
returns c = spelled 3 tt c.started-t.ensures
    (c.put_text.ensures then c.put_letter.ensures then c.put_integer.ensures
    then ends)
