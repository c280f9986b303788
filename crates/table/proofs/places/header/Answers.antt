-- The header is read from its own part. Assumes nothing.
use Rattle.table.specs.Table.{header}
use Rattle.table.proofs.places.header.Goals as goal

pub returns : goal.returns
unfolding header
returns c = cc
