-- Every promise settles its result: two results that a public function's contract allows are equal. Assumes nothing.
use Rattle.octets.proofs.Settles.{Settled, ◌and◌, ◌also◌, settled}
use Rattle.market.proofs as market

pub cross-unique : Settled market.cross.late.Reads.Post and Settled market.cross.cross_done.Reads.Post
cross-unique = (λ κs a. settled) also (λ κs a. settled)

pub day-unique : Settled market.day.system.Reads.Post
day-unique κs a = settled

pub halt-unique : Settled market.halt.halt.Reads.Post
halt-unique κs a = settled

pub priority-unique : Settled market.priority.priority.Reads.Post
priority-unique κs a = settled

pub taken-unique : Settled market.taken.execution.Reads.Post and Settled market.taken.book_cancel.Reads.Post
    and Settled market.taken.self_match.Reads.Post
taken-unique = (λ κs a. settled) also (λ κs a. settled) also (λ κs a. settled)
