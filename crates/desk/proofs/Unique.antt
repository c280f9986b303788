-- Every promise settles its result: two results that a public function's contract allows are equal. Assumes nothing.
use Rattle.octets.proofs.Settles.{Settled, SettledBoth, settled, settled-both}
use Rattle.desk.proofs as desk

pub settings-unique : Settled desk.settings.Reads.Post
settings-unique κs a = settled

pub open-unique : SettledBoth desk.open.Reads.Post
open-unique κs a = settled-both
