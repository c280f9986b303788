-- An order and its bytes, there and back: an order that is spelled and read again is the same, and so are bytes that are read and spelled again.
-- Both are citations of the laws of layouts. Assumes nothing.
use Rattle.octets.proofs.Proving.{List, [], ◌≡◌, ap, arith, length, refl, true, ℕ}
use Rattle.wire.specs.Legal.{Bytes}
use Rattle.wire.specs.Layout.{Values, Fits, at_once, unbroken}
use Rattle.wire.proofs.Layouts.{sized-all, length_fields, fields-again, spelled-again}
use Rattle.orders.specs.Limits.{record_size}
use Rattle.orders.specs.Order.{Order, record_layout, order_fields, order_of, order_bytes}
use Rattle.orders.specs.Whole.{WholeOrder}

-- ---- orders

abbrev order_values : Order → Values record_layout
order_values o =
    let s = o.shares in
    let d = o.details in
    let k = d.kept in
    let t = d.terms in
    (o.state, (o.token, (o.side, (s.liable.0, (s.executed.0, (s.matched.0, (k.stock, (t.price, (t.time, (k.firm, (t.display, (k.capacity, (t.sweep, (t.minimum.0, (k.cross, (d.reference, (o.flags, (d.previous, (d.spare, tt)))))))))))))))))))

order-fits : (o : Order) → WholeOrder o → Fits record_layout (order_values o)
order-fits o w =
    let s = w.shares in
    let d = w.details in
    let k = d.kept in
    let t = d.terms in
    (w.state, (w.token, (w.side, (s.liable, (s.executed, (s.matched, (k.stock, (t.price, (t.time, (k.firm, (t.display, (k.capacity, (t.sweep, (t.minimum, (k.cross, (d.reference, (w.flags, (d.previous, (d.spare, tt)))))))))))))))))))

record-unbroken : unbroken 0 record_size record_layout ≡ true
unfolding unbroken
record-unbroken = refl

module _ (o : Order) (w : WholeOrder o) where
  pub length-order : length (order_bytes o) ≡ record_size
  unfolding order_bytes
  length-order =
      omega (arith, length_fields record_layout (order_values o) 0 record_size record-unbroken (sized-all record_layout (order_values o) (order-fits o w)))

  pub order-again : order_of (order_bytes o) ≡ o
  unfolding order_of order_bytes
  order-again =
      ap (at_once record_layout order_fields) (fields-again record_layout (order_values o) 0 record_size [] record-unbroken (order-fits o w) refl)

-- ---- bytes

module _ (s : List ℕ) (bytes : Bytes s) where
  pub record-again : length s ≡ record_size → order_bytes (order_of s) ≡ s
  unfolding order_of order_bytes
  record-again e = spelled-again record_layout 0 record_size s record-unbroken e bytes
