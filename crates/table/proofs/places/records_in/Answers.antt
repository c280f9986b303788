-- No record in a table that has no whole header; else eight for each 641 bytes, and as many of the rest as it has room for. Assumes nothing.
use Rattle.octets.proofs.Proving.{◌-◌, ◌≡◌, arith, length}
use Rattle.table.specs.Table.{records_in}
use Rattle.table.proofs.places.records_in.Goals as goal

pub returns-then-table-lt-HEADER_SIZE : goal.returns-then-table-lt-HEADER_SIZE
unfolding records_in
returns-then-table-lt-HEADER_SIZE c =
    let e : length c.args.table.now - 64 ≡ 0 = omega arith in
    rw e

pub returns : goal.returns
unfolding records_in
returns c = omega arith
