-- A record that has its bit lies in the table. Assumes nothing.
use Rattle.table.proofs.Stored.{record-fits}
use Rattle.table.proofs.places.record_bytes.Goals as goal

pub record_at-requires : goal.record_at-requires
record_at-requires c = record-fits c.args.table.now c.args.i c.requires
