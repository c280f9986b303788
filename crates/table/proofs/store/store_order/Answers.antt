-- A record that lies in the table is stored, and no other. Assumes nothing.
use Rattle.octets.proofs.Proving.{le-ltb, lt-ltb}
use Rattle.table.specs.Table.{store_order}
use Rattle.table.proofs.store.store_order.Goals as goal

pub returns-then-i-records_in : goal.returns-then-i-records_in
unfolding store_order
returns-then-i-records_in c =
    let there = c in
    rw (← there.records_in.ensures, lt-ltb _ _ there.if-i-records_in.true) c.store_record.ensures

pub returns-else-i-records_in : goal.returns-else-i-records_in
unfolding store_order
returns-else-i-records_in c = rw (← c.records_in.ensures, le-ltb _ _ c.if-i-records_in.false)
