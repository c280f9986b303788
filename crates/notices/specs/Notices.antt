-- The message that a plan sends, stamped with the entry's stamp (Answer numbers, in order of checking, last sentence; What each entry does).
use Rattle.std.specs.Prelude.{ℕ, List, [], length}
use Rattle.wire.specs.Letters.{self_match_prevention, unspecified_weight}
use Rattle.wire.specs.Messages.{in_eighty}
use Rattle.orders.specs.Counts.{open_shares}
use Rattle.outbound.specs.Outbound.{system_event_bytes, accepted_bytes, replaced_bytes, canceled_bytes, aiq_cancelled_bytes, executed_bytes, rejected_bytes, cancel_pending_bytes, cancel_reject_bytes, priority_update_bytes, modified_bytes}
use Rattle.outbound.specs.declared.stated.Stated.{Stated}
use Rattle.outbound.specs.declared.accepted.Accepted.{Accepted as AcceptedMessage}
use Rattle.outbound.specs.declared.replaced.Replaced.{Replaced as ReplacedMessage}
use Rattle.outbound.specs.declared.canceled.Canceled.{Canceled as CanceledMessage}
use Rattle.outbound.specs.declared.aiq_cancelled.AiqCancelled.{AiqCancelled as AiqCancelledMessage}
use Rattle.outbound.specs.declared.executed.Executed.{Executed as ExecutedMessage}
use Rattle.outbound.specs.declared.rejected.Rejected.{Rejected as RejectedMessage}
use Rattle.outbound.specs.declared.priority_update.PriorityUpdate.{PriorityUpdate as PriorityUpdateMessage}
use Rattle.outbound.specs.declared.modified.Modified.{Modified as ModifiedMessage}
use Rattle.notices.specs.Types.{Order, Plan, Notice, Removed, SelfMatch, Execution, Sent, Accepted, AiqCancelled, CancelPending, CancelReject, Canceled, Executed, Modified, PriorityUpdate, Rejected, Replaced, Silent, SystemEvent}

-- fields echoed and so stored; Shares = open
unfoldable pub stated_order : Order → Stated
stated_order o =
    let k = o.details.kept in
    let t = o.details.terms in
    record {
      side = o.side;
      shares = open_shares o.shares;
      stock = k.stock;
      price = t.price;
      time = t.time;
      firm = k.firm;
      display = t.display;
      reference = o.details.reference;
      capacity = k.capacity;
      sweep = t.sweep;
      minimum = t.minimum;
      cross = k.cross;
      state = o.state;
    }

-- weight is a space
unfoldable pub accepted_notice : ℕ → Order → AcceptedMessage
accepted_notice stamp new = record { stamp = stamp; token = new.token; order = stated_order new; weight = unspecified_weight }

-- the previous token is the existing one
unfoldable pub replaced_notice : ℕ → Order → ReplacedMessage
replaced_notice stamp new =
    record {
      stamp = stamp;
      token = new.token;
      order = stated_order new;
      previous = new.details.previous;
      weight = unspecified_weight;
    }

unfoldable pub canceled_notice : ℕ → Order → Removed → ℕ → CanceledMessage
canceled_notice stamp o decrement reason = record { stamp = stamp; token = o.token; decrement = decrement; reason = reason }

unfoldable pub self_match_notice : ℕ → Order → SelfMatch → AiqCancelledMessage
self_match_notice stamp o e =
    record {
      stamp = stamp;
      token = o.token;
      decrement = e.shares;
      reason = self_match_prevention;
      prevented = e.prevented;
      price = e.price;
      flag = e.flag;
    }

unfoldable pub executed_notice : ℕ → Order → Execution → ExecutedMessage
executed_notice stamp o e =
    record {
      stamp = stamp;
      token = o.token;
      shares = e.shares;
      price = e.price;
      flag = e.flag;
      match_number = e.match_number;
    }

unfoldable pub rejected_notice : ℕ → Order → ℕ → RejectedMessage
rejected_notice stamp new reason = record { stamp = stamp; token = new.token; reason = reason }

-- price, display Y and new reference, as stored
unfoldable pub priority_notice : ℕ → Order → PriorityUpdateMessage
priority_notice stamp o =
    record {
      stamp = stamp;
      token = o.token;
      price = o.details.terms.price;
      display = o.details.terms.display;
      reference = o.details.reference;
    }

-- Modified shows the new open
unfoldable pub modified_notice : ℕ → Order → ModifiedMessage
modified_notice stamp o = record { stamp = stamp; token = o.token; side = o.side; shares = open_shares o.shares }

-- o is the changed order, new the added one
unfoldable pub notice_bytes : ℕ → Order → Order → Notice → List ℕ
notice_bytes stamp o new Silent = []
notice_bytes stamp o new (SystemEvent event) = system_event_bytes (record { stamp = stamp; event = event })
notice_bytes stamp o new Accepted = accepted_bytes (accepted_notice stamp new)
notice_bytes stamp o new Replaced = replaced_bytes (replaced_notice stamp new)
notice_bytes stamp o new (Canceled decrement reason) = canceled_bytes (canceled_notice stamp o decrement reason)
notice_bytes stamp o new (AiqCancelled e) = aiq_cancelled_bytes (self_match_notice stamp o e)
notice_bytes stamp o new (Executed e) = executed_bytes (executed_notice stamp o e)
notice_bytes stamp o new (Rejected reason) = rejected_bytes (rejected_notice stamp new reason)
notice_bytes stamp o new CancelPending = cancel_pending_bytes (record { stamp = stamp; token = o.token })
notice_bytes stamp o new CancelReject = cancel_reject_bytes (record { stamp = stamp; token = o.token })
notice_bytes stamp o new PriorityUpdate = priority_update_bytes (priority_notice stamp o)
notice_bytes stamp o new Modified = modified_bytes (modified_notice stamp o)

unfoldable pub message : ℕ → Plan → List ℕ
message stamp p = notice_bytes stamp p.changed p.added p.notice

-- the message at the front of 80 bytes, and how many are its own
unfoldable pub sent : List ℕ → Sent
sent m = record { bytes = in_eighty m; len = length m }
