-- The test, of the record's bytes, where it is one of the first n. Assumes nothing.
use Rattle.octets.proofs.Proving.{lt-ltb}
use Rattle.table.specs.Table.{order_at}
use Rattle.table.proofs.search.wanted_at.Goals as goal

pub returns-then-i-n : goal.returns-then-i-n
unfolding order_at
returns-then-i-n c = rw (lt-ltb _ _ c.if-i-n.true, c.is_wanted.ensures, c.record_bytes.ensures)
