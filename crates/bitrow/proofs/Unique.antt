-- Every promise settles its result: two results that a public function's contract allows are equal. Assumes nothing.
use Rattle.octets.proofs.Settles.{Settled, SettledLent, ◌and◌, ◌also◌, settled, lent}
use Rattle.bitrow.proofs as bitrow

pub row-unique : Settled bitrow.bit_at.Reads.Post and SettledLent bitrow.set_bit.Reads.Post and Settled bitrow.ones.Reads.Post
    and Settled bitrow.lowest.Reads.Post and Settled bitrow.clear_from.Reads.Post and Settled bitrow.cleared.Reads.Post
row-unique = (λ κs a. settled) also (λ κs a. lent) also (λ κs a. settled) also (λ κs a. settled) also (λ κs a. settled)
    also (λ κs a. settled)
