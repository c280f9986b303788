-- The bytes before the sum, or zeros. Assumes nothing.
use Rattle.octets.proofs.Proving.{le-ltb, lt-ltb}
use Rattle.table.specs.Table.{head_bytes}
use Rattle.table.proofs.places.head_bytes.Goals as goal

pub returns-then-table-lt-HEADER_SIZE : goal.returns-then-table-lt-HEADER_SIZE
unfolding head_bytes
returns-then-table-lt-HEADER_SIZE c = rw (lt-ltb _ 64 c.if-table-lt-HEADER_SIZE.true)

pub returns : goal.returns
unfolding head_bytes
returns c = rw (le-ltb _ 64 c.if-table-lt-HEADER_SIZE.false) (rw c.unwrap.ensures at c.first_chunk.ensures.cases).same
