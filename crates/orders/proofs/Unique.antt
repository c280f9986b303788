-- Every promise settles its result: two results that a public function's contract allows are equal. Assumes nothing.
use Rattle.octets.proofs.Settles.{Settled, SettledLent, ◌and◌, ◌also◌, settled, lent-first}
use Rattle.orders.proofs as orders

pub counts-unique : Settled orders.counts.gone_is_below.Reads.Post and Settled orders.counts.gone_equals.Reads.Post
    and Settled orders.counts.less_gone.Reads.Post and Settled orders.counts.open_shares.Reads.Post
    and Settled orders.counts.with_liable.Reads.Post and Settled orders.counts.cut.Reads.Post and Settled orders.counts.executing.Reads.Post
    and Settled orders.counts.self_matching.Reads.Post and Settled orders.counts.new_counts.Reads.Post
counts-unique = (λ κs a. settled) also (λ κs a. settled) also (λ κs a. settled) also (λ κs a. settled) also (λ κs a. settled)
    also (λ κs a. settled) also (λ κs a. settled) also (λ κs a. settled) also (λ κs a. settled)

pub order-unique : Settled orders.order.no_order.Reads.Post and Settled orders.order.rejected_order.Reads.Post
    and Settled orders.order.is_live.Reads.Post and Settled orders.order.is_used.Reads.Post and Settled orders.order.is.Reads.Post
    and Settled orders.order.marked.Reads.Post and Settled orders.order.cleared.Reads.Post and Settled orders.order.with_side.Reads.Post
    and Settled orders.order.with_details.Reads.Post and Settled orders.order.dead_if_spent.Reads.Post
    and Settled orders.order.killed.Reads.Post
order-unique = (λ κs a. settled) also (λ κs a. settled) also (λ κs a. settled) also (λ κs a. settled) also (λ κs a. settled)
    also (λ κs a. settled) also (λ κs a. settled) also (λ κs a. settled) also (λ κs a. settled) also (λ κs a. settled)
    also (λ κs a. settled)

pub record-unique : Settled orders.record.order_of.Reads.Post and SettledLent orders.record.put_order.Reads.Post
record-unique = (λ κs a. settled) also (λ κs a. lent-first)

pub sound-unique : Settled orders.sound.judge_record.Reads.Post
sound-unique κs a = settled

pub wanted-unique : Settled orders.wanted.is_wanted.Reads.Post
wanted-unique κs a = settled

pub live-unique : Settled orders.live.lives.Reads.Post and Settled orders.live.open_in.Reads.Post
live-unique = (λ κs a. settled) also (λ κs a. settled)
