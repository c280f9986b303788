-- What the record added is read before it is written over; then it is counted as it stands. Assumes nothing.
use Rattle.table.specs.Table.{store_record}
use Rattle.table.proofs.store.store_record.Goals as goal

pub returns : goal.returns
unfolding store_record
returns c = cc
