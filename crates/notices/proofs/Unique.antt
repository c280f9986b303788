-- Every promise settles its result: two results that a public function's contract allows are equal. Assumes nothing.
use Rattle.octets.proofs.Settles.{Settled, settled}
use Rattle.notices.proofs as notices

pub message-unique : Settled notices.message.Reads.Post
message-unique κs a = settled
