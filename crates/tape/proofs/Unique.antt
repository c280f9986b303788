-- Every promise settles its result: two results that a public function's contract allows are equal. Assumes nothing.
use Rattle.octets.proofs.Settles.{Settled, ◌and◌, ◌also◌, settled}
use Rattle.tape.proofs as tape

pub cutting-unique : Settled tape.cutting.cut_at.Reads.Post
cutting-unique κs a = settled

pub judging-unique : Settled tape.judging.judge.Reads.Post
judging-unique κs a = settled

pub kinds-unique : Settled tape.kinds.kind_by.Reads.Post and Settled tape.kinds.kind_of.Reads.Post
    and Settled tape.kinds.length_of.Reads.Post and Settled tape.kinds.entry_length.Reads.Post
kinds-unique = (λ κs a. settled) also (λ κs a. settled) also (λ κs a. settled) also (λ κs a. settled)

pub reading-unique : Settled tape.reading.stamp_of.Reads.Post and Settled tape.reading.names_order.Reads.Post
    and Settled tape.reading.token_of.Reads.Post and Settled tape.reading.execution_of.Reads.Post
    and Settled tape.reading.book_cancel_of.Reads.Post and Settled tape.reading.self_match_of.Reads.Post
    and Settled tape.reading.priority_of.Reads.Post and Settled tape.reading.system_of.Reads.Post
    and Settled tape.reading.stock_state_of.Reads.Post
    and Settled tape.reading.purges.Reads.Post
    and Settled tape.reading.purge_of.Reads.Post and Settled tape.reading.blocking_of.Reads.Post
    and Settled tape.reading.enter_of.Reads.Post and Settled tape.reading.replace_of.Reads.Post
    and Settled tape.reading.cancel_of.Reads.Post and Settled tape.reading.modify_of.Reads.Post
reading-unique = (λ κs a. settled) also (λ κs a. settled) also (λ κs a. settled) also (λ κs a. settled) also (λ κs a. settled) also (λ κs a. settled)
    also (λ κs a. settled) also (λ κs a. settled) also (λ κs a. settled) also (λ κs a. settled) also (λ κs a. settled)
    also (λ κs a. settled) also (λ κs a. settled) also (λ κs a. settled) also (λ κs a. settled) also (λ κs a. settled)
