-- The order is read from its own part. Assumes nothing.
use Rattle.table.specs.Table.{order_at}
use Rattle.table.proofs.places.order_at.Goals as goal

pub returns : goal.returns
unfolding order_at
returns c = cc
