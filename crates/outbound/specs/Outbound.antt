-- The twelve messages that the host sends as values: each struct from the bytes of its layout, and back.
use Rattle.std.specs.Prelude.{ℕ, List}
use Rattle.wire.specs.Layout.{Values, ◌&◌, both_values, FromFields, grouped, reading, spell}
use Rattle.wire.specs.Messages.{system_event, stated, accepted_rest, accepted, replaced_rest, replaced, canceled, aiq_cancelled, executed, broken_trade, rejected, cancel_pending, cancel_reject, priority_update, modified}
use Rattle.wire.specs.Shares.{removed}
pub use Rattle.outbound.specs.declared.system_event.SystemEvent.{SystemEvent}
pub use Rattle.outbound.specs.declared.stated.Stated.{Stated}
pub use Rattle.outbound.specs.declared.accepted.Accepted.{Accepted}
pub use Rattle.outbound.specs.declared.replaced.Replaced.{Replaced}
pub use Rattle.outbound.specs.declared.canceled.Canceled.{Canceled}
pub use Rattle.outbound.specs.declared.aiq_cancelled.AiqCancelled.{AiqCancelled}
pub use Rattle.outbound.specs.declared.executed.Executed.{Executed}
pub use Rattle.outbound.specs.declared.broken_trade.BrokenTrade.{BrokenTrade}
pub use Rattle.outbound.specs.declared.rejected.Rejected.{Rejected}
pub use Rattle.outbound.specs.declared.cancel_pending.CancelPending.{CancelPending}
pub use Rattle.outbound.specs.declared.cancel_reject.CancelReject.{CancelReject}
pub use Rattle.outbound.specs.declared.priority_update.PriorityUpdate.{PriorityUpdate}
pub use Rattle.outbound.specs.declared.modified.Modified.{Modified}

-- ---- System Event

abbrev pub system_event_made : FromFields system_event.fields SystemEvent
system_event_made stamp event = record {
  stamp = stamp;
  event = event;
}

unfoldable pub system_event_of : List ℕ → SystemEvent
system_event_of s = reading system_event.fields s system_event_made

abbrev pub system_event_values : SystemEvent → Values system_event.fields
system_event_values m = m.stamp & m.event & tt

unfoldable pub system_event_bytes : SystemEvent → List ℕ
system_event_bytes m = spell system_event (system_event_values m)

-- ---- What Accepted and Replaced both state

abbrev pub stated_made : FromFields stated Stated
stated_made side shares stock price time firm display reference capacity sweep minimum cross state = record {
  side = side;
  shares = removed shares;
  stock = stock;
  price = price;
  time = time;
  firm = firm;
  display = display;
  reference = reference;
  capacity = capacity;
  sweep = sweep;
  minimum = removed minimum;
  cross = cross;
  state = state;
}

unfoldable pub stated_of : List ℕ → Stated
stated_of s = reading stated s stated_made

abbrev pub stated_values : Stated → Values stated
stated_values o =
    o.side & o.shares.0 & o.stock & o.price & o.time & o.firm & o.display & o.reference & o.capacity &
    o.sweep & o.minimum.0 & o.cross & o.state & tt

-- ---- Accepted

abbrev pub accepted_made : FromFields accepted.fields Accepted
accepted_made stamp token =
    grouped Accepted stated accepted_rest stated_made (λ order weight. record { stamp = stamp; token = token; order = order; weight = weight })

unfoldable pub accepted_of : List ℕ → Accepted
accepted_of s = reading accepted.fields s accepted_made

abbrev pub accepted_values : Accepted → Values accepted.fields
accepted_values m = m.stamp & m.token & both_values stated accepted_rest (stated_values m.order) (m.weight & tt)

unfoldable pub accepted_bytes : Accepted → List ℕ
accepted_bytes m = spell accepted (accepted_values m)

-- ---- Replaced

abbrev pub replaced_made : FromFields replaced.fields Replaced
replaced_made stamp token =
    grouped Replaced stated replaced_rest stated_made
    (λ order previous weight. record { stamp = stamp; token = token; order = order; previous = previous; weight = weight })

unfoldable pub replaced_of : List ℕ → Replaced
replaced_of s = reading replaced.fields s replaced_made

abbrev pub replaced_values : Replaced → Values replaced.fields
replaced_values m = m.stamp & m.token & both_values stated replaced_rest (stated_values m.order) (m.previous & m.weight & tt)

unfoldable pub replaced_bytes : Replaced → List ℕ
replaced_bytes m = spell replaced (replaced_values m)

-- ---- Canceled

abbrev pub canceled_made : FromFields canceled.fields Canceled
canceled_made stamp token decrement reason = record {
  stamp = stamp;
  token = token;
  decrement = removed decrement;
  reason = reason;
}

unfoldable pub canceled_of : List ℕ → Canceled
canceled_of s = reading canceled.fields s canceled_made

abbrev pub canceled_values : Canceled → Values canceled.fields
canceled_values m = m.stamp & m.token & m.decrement.0 & m.reason & tt

unfoldable pub canceled_bytes : Canceled → List ℕ
canceled_bytes m = spell canceled (canceled_values m)

-- ---- Aiq Cancelled

abbrev pub aiq_cancelled_made : FromFields aiq_cancelled.fields AiqCancelled
aiq_cancelled_made stamp token decrement reason prevented price flag = record {
  stamp = stamp;
  token = token;
  decrement = removed decrement;
  reason = reason;
  prevented = removed prevented;
  price = price;
  flag = flag;
}

unfoldable pub aiq_cancelled_of : List ℕ → AiqCancelled
aiq_cancelled_of s = reading aiq_cancelled.fields s aiq_cancelled_made

abbrev pub aiq_cancelled_values : AiqCancelled → Values aiq_cancelled.fields
aiq_cancelled_values m = m.stamp & m.token & m.decrement.0 & m.reason & m.prevented.0 & m.price & m.flag & tt

unfoldable pub aiq_cancelled_bytes : AiqCancelled → List ℕ
aiq_cancelled_bytes m = spell aiq_cancelled (aiq_cancelled_values m)

-- ---- Executed

abbrev pub executed_made : FromFields executed.fields Executed
executed_made stamp token shares price flag match_number = record {
  stamp = stamp;
  token = token;
  shares = removed shares;
  price = price;
  flag = flag;
  match_number = match_number;
}

unfoldable pub executed_of : List ℕ → Executed
executed_of s = reading executed.fields s executed_made

abbrev pub executed_values : Executed → Values executed.fields
executed_values m = m.stamp & m.token & m.shares.0 & m.price & m.flag & m.match_number & tt

unfoldable pub executed_bytes : Executed → List ℕ
executed_bytes m = spell executed (executed_values m)

-- ---- Broken Trade

abbrev pub broken_trade_made : FromFields broken_trade.fields BrokenTrade
broken_trade_made stamp token match_number reason = record {
  stamp = stamp;
  token = token;
  match_number = match_number;
  reason = reason;
}

unfoldable pub broken_trade_of : List ℕ → BrokenTrade
broken_trade_of s = reading broken_trade.fields s broken_trade_made

abbrev pub broken_trade_values : BrokenTrade → Values broken_trade.fields
broken_trade_values m = m.stamp & m.token & m.match_number & m.reason & tt

unfoldable pub broken_trade_bytes : BrokenTrade → List ℕ
broken_trade_bytes m = spell broken_trade (broken_trade_values m)

-- ---- Rejected

abbrev pub rejected_made : FromFields rejected.fields Rejected
rejected_made stamp token reason = record {
  stamp = stamp;
  token = token;
  reason = reason;
}

unfoldable pub rejected_of : List ℕ → Rejected
rejected_of s = reading rejected.fields s rejected_made

abbrev pub rejected_values : Rejected → Values rejected.fields
rejected_values m = m.stamp & m.token & m.reason & tt

unfoldable pub rejected_bytes : Rejected → List ℕ
rejected_bytes m = spell rejected (rejected_values m)

-- ---- Cancel Pending

abbrev pub cancel_pending_made : FromFields cancel_pending.fields CancelPending
cancel_pending_made stamp token = record {
  stamp = stamp;
  token = token;
}

unfoldable pub cancel_pending_of : List ℕ → CancelPending
cancel_pending_of s = reading cancel_pending.fields s cancel_pending_made

abbrev pub cancel_pending_values : CancelPending → Values cancel_pending.fields
cancel_pending_values m = m.stamp & m.token & tt

unfoldable pub cancel_pending_bytes : CancelPending → List ℕ
cancel_pending_bytes m = spell cancel_pending (cancel_pending_values m)

-- ---- Cancel Reject

abbrev pub cancel_reject_made : FromFields cancel_reject.fields CancelReject
cancel_reject_made stamp token = record {
  stamp = stamp;
  token = token;
}

unfoldable pub cancel_reject_of : List ℕ → CancelReject
cancel_reject_of s = reading cancel_reject.fields s cancel_reject_made

abbrev pub cancel_reject_values : CancelReject → Values cancel_reject.fields
cancel_reject_values m = m.stamp & m.token & tt

unfoldable pub cancel_reject_bytes : CancelReject → List ℕ
cancel_reject_bytes m = spell cancel_reject (cancel_reject_values m)

-- ---- Priority Update

abbrev pub priority_update_made : FromFields priority_update.fields PriorityUpdate
priority_update_made stamp token price display reference = record {
  stamp = stamp;
  token = token;
  price = price;
  display = display;
  reference = reference;
}

unfoldable pub priority_update_of : List ℕ → PriorityUpdate
priority_update_of s = reading priority_update.fields s priority_update_made

abbrev pub priority_update_values : PriorityUpdate → Values priority_update.fields
priority_update_values m = m.stamp & m.token & m.price & m.display & m.reference & tt

unfoldable pub priority_update_bytes : PriorityUpdate → List ℕ
priority_update_bytes m = spell priority_update (priority_update_values m)

-- ---- Modified

abbrev pub modified_made : FromFields modified.fields Modified
modified_made stamp token side shares = record {
  stamp = stamp;
  token = token;
  side = side;
  shares = removed shares;
}

unfoldable pub modified_of : List ℕ → Modified
modified_of s = reading modified.fields s modified_made

abbrev pub modified_values : Modified → Values modified.fields
modified_values m = m.stamp & m.token & m.side & m.shares.0 & tt

unfoldable pub modified_bytes : Modified → List ℕ
modified_bytes m = spell modified (modified_values m)
