-- The number in its place. Assumes nothing.
use Rattle.table.specs.Table.{open_sum}
use Rattle.table.proofs.store.open_sum.Goals as goal

pub returns : goal.returns
unfolding open_sum
returns c = c.be32.ensures
