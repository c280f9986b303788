-- Every promise settles its result: two results that a public function's contract allows are equal. Assumes nothing.
use Rattle.octets.proofs.Settles.{Settled, SettledLent, ◌and◌, ◌also◌, settled, lent}
use Rattle.stocks.proofs as stocks

pub list-unique : Settled stocks.judge.list_good.Reads.Post and Settled stocks.find.standing.Reads.Post
    and Settled stocks.find.Listed.standing.Reads.Post
list-unique = (λ κs a. settled) also (λ κs a. settled) also (λ κs a. settled)

pub set-unique : SettledLent stocks.set.set_state.Reads.Post
set-unique κs a = lent

pub standing-unique : Settled stocks.standing.is_listed.Reads.Post and Settled stocks.standing.is_halted.Reads.Post
standing-unique = (λ κs a. settled) also (λ κs a. settled)
