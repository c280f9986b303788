-- Every promise settles its result: two results that a public function's contract allows are equal. Assumes nothing.
use Rattle.octets.proofs.Settles.{Settled, ◌and◌, ◌also◌, settled}
use Rattle.answers.proofs as answers

pub values-unique : Settled answers.Refusal.number.Reads.Post and Settled answers.Refusal.place.Reads.Post and Settled answers.number.Reads.Post and Settled answers.place.Reads.Post
values-unique = (λ κs a. settled) also (λ κs a. settled) also (λ κs a. settled) also (λ κs a. settled)
