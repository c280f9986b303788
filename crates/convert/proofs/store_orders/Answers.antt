-- A record of the old table is read, and stored in its place of the new one. Assumes nothing.
use Rattle.octets.proofs.Proving.{List, ◌+◌, ◌∙◌, ◌≡◌, add-one, ap, arith, refl, sym, ℕ}
use Rattle.table.specs.Table.{order_at, store_order}
use Rattle.orders.specs.Order.{order_of}
use Rattle.orders.specs.declared.order.Order.{Order}
use Rattle.convert.specs.Convert.{with_orders}
use Rattle.convert.proofs.Former.{old-fits}
use Rattle.convert.proofs.store_orders.Goals as goal

-- one order more
order-next : (old t u : List ℕ) (i : ℕ) (o : Order) → u ≡ store_order (with_orders old i t) i o → o ≡ order_at old i → u ≡ with_orders old (i + 1) t
unfolding with_orders
order-next old t u i o stored read =
    stored ∙ ap (store_order (with_orders old i t) i) read ∙ ap (λ (k : ℕ). with_orders old k t) (sym (add-one i))

pub loop-i-init : goal.loop-i-init
unfolding with_orders
loop-i-init c = refl

pub record_at-requires : goal.record_at-requires
record_at-requires c = old-fits c.args.old.now c.loop-i.i (omega (arith, c.requires))

pub loop-i-preserved : goal.loop-i-preserved
unfolding order_at
loop-i-preserved c =
    let l = c.loop-i in
    let a = c.args in
    order-next a.old.now a.table.now _ l.i _ (c.store_order.ensures ∙ ap (λ (t : List ℕ). store_order t l.i c.order_of.result) l.invariant)
    (c.order_of.ensures ∙ ap order_of c.record_at.ensures)
