-- The number of records is asked first, so that the length that it should have does not overflow. Assumes nothing.
use Rattle.table.specs.Table.{size_good}
use Rattle.table.proofs.sound.size_good.Goals as goal

pub returns-then-n : goal.returns-then-n
unfolding size_good
returns-then-n c =
    rw (← c.records_in-n.ensures, c.if-n.true, c.table_size.ensures)

pub returns-else-n : goal.returns-else-n
unfolding size_good
returns-else-n c = rw (← c.records_in-n.ensures, c.if-n.false)
