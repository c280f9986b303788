-- Every promise settles its result: two results that a message's own contract allows are equal. Assumes nothing.
use Rattle.octets.proofs.Settles.{Settled, ◌and◌, ◌also◌, settled, settled-first}
use Rattle.inbound.proofs as inbound

pub judged-unique : Settled inbound.cancel_order.CancelOrderBody.judged.Reads.Post
    and Settled inbound.enter_order.EnterOrderBody.judged.Reads.Post and Settled inbound.modify_order.ModifyOrderBody.judged.Reads.Post
    and Settled inbound.replace_order.ReplaceOrderBody.judged.Reads.Post
judged-unique = (λ κs a. settled) also (λ κs a. settled) also (λ κs a. settled) also (λ κs a. settled)

pub parse-unique : Settled inbound.cancel_order.CancelOrderBody.parse.Reads.Post and Settled inbound.enter_order.EnterOrderBody.parse.Reads.Post
    and Settled inbound.modify_order.ModifyOrderBody.parse.Reads.Post and Settled inbound.replace_order.ReplaceOrderBody.parse.Reads.Post
parse-unique = (λ κs a. settled) also (λ κs a. settled) also (λ κs a. settled) also (λ κs a. settled)

pub spell-unique : Settled inbound.cancel_order.CancelOrderWritten.spell.Reads.Post
    and Settled inbound.enter_order.EnterOrderWritten.spell.Reads.Post and Settled inbound.modify_order.ModifyOrderWritten.spell.Reads.Post
    and Settled inbound.replace_order.ReplaceOrderWritten.spell.Reads.Post
spell-unique = (λ κs a. settled-first) also (λ κs a. settled-first) also (λ κs a. settled-first) also (λ κs a. settled-first)
