-- The part from a record's place on, whole. Assumes nothing.
use Rattle.octets.proofs.Proving.{add-sub_cancel_left}
use Rattle.table.specs.Table.{record_bytes, record_place}
use Rattle.table.proofs.places.record_at.Goals as goal

pub returns : goal.returns
unfolding record_bytes record_place
returns c = rw add-sub_cancel_left at (rw c.unwrap.ensures at c.as_array.ensures.cases).same
