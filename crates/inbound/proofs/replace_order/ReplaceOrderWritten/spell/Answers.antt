-- The fields are put one by one, in the layout's order. Assumes nothing.
use Rattle.inbound.proofs.Codec.{spelled, replace_order_bytes, ◌then◌, ends}
use Rattle.inbound.proofs.replace_order.ReplaceOrderWritten.spell.Goals as goal

pub returns : goal.returns
unfolding replace_order_bytes
returns c = spelled 1 tt c.started-t.ensures
    (c.put_text.ensures then c.put_text-2.ensures then c.put_integer.ensures
    then c.put_integer-2.ensures then c.put_integer-3.ensures then c.put_letter.ensures
    then c.put_letter-2.ensures then c.put_integer-4.ensures then ends)
