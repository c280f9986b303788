-- The header is put over the bytes before the sum, which are lent whole. Assumes nothing.
use Rattle.octets.proofs.Proving.{List, ◌++◌, ap, drop, le-leb, lt-leb, zero-add, ℕ}
use Rattle.table.specs.Table.{store_header}
use Rattle.table.proofs.places.store_header.Goals as goal

pub returns-then-table-ge-HEADER_SIZE : goal.returns-then-table-ge-HEADER_SIZE
unfolding store_header
returns-then-table-ge-HEADER_SIZE c =
    let put = c.put_header.ensures in
    rw (le-leb 64 _ c.if-table-ge-HEADER_SIZE.true, zero-add, put.1) (ap (λ (l : List ℕ). l ++ drop 60 c.args.table.now) put.0)

pub returns-else-table-ge-HEADER_SIZE : goal.returns-else-table-ge-HEADER_SIZE
unfolding store_header
returns-else-table-ge-HEADER_SIZE c = rw (lt-leb 64 _ c.if-table-ge-HEADER_SIZE.false)
