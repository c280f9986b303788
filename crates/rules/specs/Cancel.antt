-- X: an order is cut down to an intended size (What each entry does, X; Ask 4). The size is a total and limits executions; what is open and the
-- decrement are removed shares.
use Rattle.std.specs.Prelude.{Bool, not, ◌||◌}
use Rattle.octets.specs.Choice.{first_of◌, ◌⇒◌⨾◌}
use Rattle.wire.specs.Letters.{user_requested}
use Rattle.wire.specs.Shares.{total, ◌less◌, ◌equals◌, ◌grown_by◌, ◌exceeds◌, ◌minus◌}
use Rattle.orders.specs.Counts.{gone, open_shares, with_liable}
use Rattle.orders.specs.Order.{is_live, ◌is◌, marked, dead_if_spent}
use Rattle.orders.specs.declared.flags.Flag.TheVariants.{Late, Pending, RejectSent}
use Rattle.rules.specs.Plan.{ignored, changing}
use Rattle.rules.specs.Types.{Canceled, CancelPending, CancelReject, Decision, Total, Removed, Order, CancelOrder}

-- The new open is intended size less executed, and 0 where size is not above executed: shares lost to self match aren't executions (Ask 4)
unfoldable pub new_open : Order → Total → Removed
new_open o size = size less o.shares.executed

-- Not live; new open not below the present open (Ask 4); or pending: 1
unfoldable pub cancel_ignored : Order → Total → Bool
cancel_ignored o size = not (is_live o) || not (open_shares o.shares exceeds new_open o size) || (o is Pending)

-- Late and size 0: Cancel Pending, pending set. Late, size above 0: Cancel Reject once a token, then 1
unfoldable pub late_cancel : Order → Total → Decision
late_cancel o size =
    first_of
    size equals total 0 ⇒ changing (marked o Pending) CancelPending
    ⨾ o is RejectSent ⇒ ignored
    ⨾ changing (marked o RejectSent) CancelReject

-- Otherwise Canceled U; the decrement is the present open less the new open (Ask 4)
unfoldable pub decrement : Order → Total → Removed
decrement o size = open_shares o.shares minus new_open o size

-- and liable becomes executed + self-matched + new open (Ask 4). An order whose open reaches 0 is dead
unfoldable pub canceled_order : Order → Total → Order
canceled_order o size = dead_if_spent o (with_liable o.shares (gone o.shares grown_by new_open o size))

unfoldable pub cancel_rule : Order → CancelOrder → Decision
cancel_rule o e =
    first_of
    cancel_ignored o e.size ⇒ ignored
    ⨾ o is Late ⇒ late_cancel o e.size
    ⨾ changing (canceled_order o e.size) (Canceled (decrement o e.size) user_requested)
