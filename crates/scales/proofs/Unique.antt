-- Every promise settles its result: two results that a public function's contract allows are equal. Assumes nothing.
use Rattle.octets.proofs.Settles.{Settled, SettledBoth, ◌and◌, ◌also◌, settled, settled-both}
use Rattle.scales.proofs as scales

pub values-unique : Settled scales.pq_sound.Reads.Post and Settled scales.pq_find.Reads.Post and SettledBoth scales.pq_put.Reads.Post
    and Settled scales.pq_stocks_good.Reads.Post and Settled scales.pq_standing.Reads.Post
    and Settled scales.pq_find_wanted.Reads.Post
values-unique = (λ κs a. settled) also (λ κs a. settled) also (λ κs a. settled-both) also (λ κs a. settled) also (λ κs a. settled)
    also (λ κs a. settled)
