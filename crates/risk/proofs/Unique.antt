-- Every promise settles its result: two results that a public function's contract allows are equal. Assumes nothing.
use Rattle.octets.proofs.Settles.{Settled, ◌and◌, ◌also◌, settled}
use Rattle.risk.proofs as risk

pub purge-unique : Settled risk.purging.wanted_by.Reads.Post and Settled risk.purging.purge.Reads.Post
purge-unique = (λ κs a. settled) also (λ κs a. settled)

pub blocking-unique : Settled risk.blocking.block.Reads.Post
blocking-unique κs a = settled
