-- The four messages that a client sends as values: each struct from the bytes of its layout, and back.
use Rattle.std.specs.Prelude.{ℕ, List}
use Rattle.wire.specs.Layout.{Values, ◌&◌, FromFields, reading, spell}
use Rattle.wire.specs.Messages.{enter_order, replace_order, cancel_order, modify_order}
use Rattle.wire.specs.Shares.{total, removed}
pub use Rattle.inbound.specs.declared.enter_order.EnterOrder.{EnterOrder}
pub use Rattle.inbound.specs.declared.replace_order.ReplaceOrder.{ReplaceOrder}
pub use Rattle.inbound.specs.declared.cancel_order.CancelOrder.{CancelOrder}
pub use Rattle.inbound.specs.declared.modify_order.ModifyOrder.{ModifyOrder}

-- ---- Enter Order

abbrev pub enter_order_made : FromFields enter_order.fields EnterOrder
enter_order_made token side shares stock price time firm display capacity sweep minimum cross = record {
  token = token;
  side = side;
  shares = total shares;
  stock = stock;
  price = price;
  time = time;
  firm = firm;
  display = display;
  capacity = capacity;
  sweep = sweep;
  minimum = removed minimum;
  cross = cross;
}

unfoldable pub enter_order_of : List ℕ → EnterOrder
enter_order_of s = reading enter_order.fields s enter_order_made

abbrev pub enter_order_values : EnterOrder → Values enter_order.fields
enter_order_values m =
    m.token & m.side & m.shares.0 & m.stock & m.price & m.time & m.firm & m.display & m.capacity &
    m.sweep & m.minimum.0 & m.cross & tt

unfoldable pub enter_order_bytes : EnterOrder → List ℕ
enter_order_bytes m = spell enter_order (enter_order_values m)

-- ---- Replace Order

abbrev pub replace_order_made : FromFields replace_order.fields ReplaceOrder
replace_order_made existing replacement shares price time display sweep minimum = record {
  existing = existing;
  replacement = replacement;
  shares = total shares;
  price = price;
  time = time;
  display = display;
  sweep = sweep;
  minimum = removed minimum;
}

unfoldable pub replace_order_of : List ℕ → ReplaceOrder
replace_order_of s = reading replace_order.fields s replace_order_made

abbrev pub replace_order_values : ReplaceOrder → Values replace_order.fields
replace_order_values m = m.existing & m.replacement & m.shares.0 & m.price & m.time & m.display & m.sweep & m.minimum.0 & tt

unfoldable pub replace_order_bytes : ReplaceOrder → List ℕ
replace_order_bytes m = spell replace_order (replace_order_values m)

-- ---- Cancel Order

abbrev pub cancel_order_made : FromFields cancel_order.fields CancelOrder
cancel_order_made token size = record {
  token = token;
  size = total size;
}

unfoldable pub cancel_order_of : List ℕ → CancelOrder
cancel_order_of s = reading cancel_order.fields s cancel_order_made

abbrev pub cancel_order_values : CancelOrder → Values cancel_order.fields
cancel_order_values m = m.token & m.size.0 & tt

unfoldable pub cancel_order_bytes : CancelOrder → List ℕ
cancel_order_bytes m = spell cancel_order (cancel_order_values m)

-- ---- Modify Order

abbrev pub modify_order_made : FromFields modify_order.fields ModifyOrder
modify_order_made token side shares = record {
  token = token;
  side = side;
  shares = total shares;
}

unfoldable pub modify_order_of : List ℕ → ModifyOrder
modify_order_of s = reading modify_order.fields s modify_order_made

abbrev pub modify_order_values : ModifyOrder → Values modify_order.fields
modify_order_values m = m.token & m.side & m.shares.0 & tt

unfoldable pub modify_order_bytes : ModifyOrder → List ℕ
modify_order_bytes m = spell modify_order (modify_order_values m)
