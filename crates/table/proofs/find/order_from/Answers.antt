-- A place below the used records has an order, any other has none. Assumes nothing.
use Rattle.octets.proofs.Proving.{arith, le-ltb, lt-ltb}
use Rattle.table.specs.Table.{used_in, order_from}
use Rattle.table.proofs.find.order_from.Goals as goal

pub order_at-requires : goal.order_at-requires
unfolding used_in
order_at-requires c = omega (arith, c.used.ensures)

pub returns-then-i-used : goal.returns-then-i-used
unfolding order_from
returns-then-i-used c = rw (← c.used.ensures, lt-ltb _ _ c.if-i-used.true) c.order_at.ensures

pub returns : goal.returns
unfolding order_from
returns c = rw (← c.used.ensures, le-ltb _ _ c.if-i-used.false) c.no_order.ensures
