-- The order is put over its record, which is lent whole; the table is as long as it was. Assumes nothing.
use Rattle.octets.proofs.Proving.{List, ◌<◌, arith, subst, sym, ℕ}
use Rattle.octets.specs.Bytes.{put}
use Rattle.octets.proofs.Laws.{put-lent, length-put}
use Rattle.orders.specs.Order.{order_bytes}
use Rattle.table.specs.Table.{records_in}
use Rattle.table.proofs.Stored.{same-records}
use Rattle.table.proofs.store.place_order.Goals as goal

pub returns : goal.returns
returns c =
    let placed = c.record_place-place in
    let start = c in
    let t = start.args.table.now in
    let e = c.put_order.ensures in
    let is-put = put-lent t placed.result 80 (order_bytes start.args.o) _ e.0 e.1 in
    let long = length-put t placed.result (order_bytes start.args.o) (omega (arith, e.1, placed.ensures.1)) in
    (rw (← placed.ensures.0) is-put, subst (λ (u : List ℕ). start.args.i < records_in u) (sym is-put) (rw (same-records t (put t placed.result (order_bytes start.args.o)) long) start.requires))
