-- Every promise settles its result: two results that a message's own contract allows are equal. Assumes nothing.
use Rattle.octets.proofs.Settles.{Settled, ◌and◌, ◌also◌, settled, settled-first}
use Rattle.outbound.proofs as outbound

pub judged-unique : Settled outbound.accepted.AcceptedBody.judged.Reads.Post
    and Settled outbound.aiq_cancelled.AiqCancelledBody.judged.Reads.Post and Settled outbound.broken_trade.BrokenTradeBody.judged.Reads.Post
    and Settled outbound.cancel_pending.CancelPendingBody.judged.Reads.Post and Settled outbound.cancel_reject.CancelRejectBody.judged.Reads.Post
    and Settled outbound.canceled.CanceledBody.judged.Reads.Post and Settled outbound.executed.ExecutedBody.judged.Reads.Post
    and Settled outbound.modified.ModifiedBody.judged.Reads.Post and Settled outbound.priority_update.PriorityUpdateBody.judged.Reads.Post
    and Settled outbound.rejected.RejectedBody.judged.Reads.Post and Settled outbound.replaced.ReplacedBody.judged.Reads.Post
    and Settled outbound.system_event.SystemEventBody.judged.Reads.Post
judged-unique =
    (λ κs a. settled) also (λ κs a. settled) also (λ κs a. settled) also (λ κs a. settled) also (λ κs a. settled) also (λ κs a. settled)
    also (λ κs a. settled) also (λ κs a. settled) also (λ κs a. settled) also (λ κs a. settled) also (λ κs a. settled) also (λ κs a. settled)

pub parse-unique : Settled outbound.accepted.AcceptedBody.parse.Reads.Post and Settled outbound.aiq_cancelled.AiqCancelledBody.parse.Reads.Post
    and Settled outbound.broken_trade.BrokenTradeBody.parse.Reads.Post and Settled outbound.cancel_pending.CancelPendingBody.parse.Reads.Post
    and Settled outbound.cancel_reject.CancelRejectBody.parse.Reads.Post and Settled outbound.canceled.CanceledBody.parse.Reads.Post
    and Settled outbound.executed.ExecutedBody.parse.Reads.Post and Settled outbound.modified.ModifiedBody.parse.Reads.Post
    and Settled outbound.priority_update.PriorityUpdateBody.parse.Reads.Post and Settled outbound.rejected.RejectedBody.parse.Reads.Post
    and Settled outbound.replaced.ReplacedBody.parse.Reads.Post and Settled outbound.system_event.SystemEventBody.parse.Reads.Post
parse-unique =
    (λ κs a. settled) also (λ κs a. settled) also (λ κs a. settled) also (λ κs a. settled) also (λ κs a. settled) also (λ κs a. settled)
    also (λ κs a. settled) also (λ κs a. settled) also (λ κs a. settled) also (λ κs a. settled) also (λ κs a. settled) also (λ κs a. settled)

pub spell-unique : Settled outbound.accepted.AcceptedWritten.spell.Reads.Post
    and Settled outbound.aiq_cancelled.AiqCancelledWritten.spell.Reads.Post and Settled outbound.broken_trade.BrokenTradeWritten.spell.Reads.Post
    and Settled outbound.cancel_pending.CancelPendingWritten.spell.Reads.Post
    and Settled outbound.cancel_reject.CancelRejectWritten.spell.Reads.Post and Settled outbound.canceled.CanceledWritten.spell.Reads.Post
    and Settled outbound.executed.ExecutedWritten.spell.Reads.Post and Settled outbound.modified.ModifiedWritten.spell.Reads.Post
    and Settled outbound.priority_update.PriorityUpdateWritten.spell.Reads.Post and Settled outbound.rejected.RejectedWritten.spell.Reads.Post
    and Settled outbound.replaced.ReplacedWritten.spell.Reads.Post and Settled outbound.system_event.SystemEventWritten.spell.Reads.Post
spell-unique =
    (λ κs a. settled-first) also (λ κs a. settled-first) also (λ κs a. settled-first) also (λ κs a. settled-first) also (λ κs a. settled-first) also (λ κs a. settled-first)
    also (λ κs a. settled-first) also (λ κs a. settled-first) also (λ κs a. settled-first) also (λ κs a. settled-first) also (λ κs a. settled-first) also (λ κs a. settled-first)
