-- p: an order gets another price, and with it another reference (What each entry does, p).
use Rattle.std.specs.Prelude.{true}
use Rattle.wire.specs.Letters.{anonymous}
use Rattle.orders.specs.Order.{with_details}
use Rattle.header.specs.Header.{is_open_day}
use Rattle.rules.specs.Plan.{allowed, renumbering}
use Rattle.market.specs.Guards.{market_answer}
use Rattle.market.specs.Types.{PriorityUpdate, Decision, Order, Header, Priority}

-- price stored, display Y, new reference
unfoldable pub prioritised_order : Header → Order → Priority → Order
prioritised_order h o e =
    let d = o.details in
    let t = d.terms in
    with_details o (record {
      kept = d.kept;
      terms = record { price = e.price; time = t.time; display = anonymous; sweep = t.sweep; minimum = t.minimum };
      reference = h.reference;
      previous = d.previous;
      spare = d.spare;
    })

-- Priority Update
unfoldable pub priority_rule : Header → Order → Priority → Decision
priority_rule h o e =
    allowed (market_answer o (is_open_day h) true)
    (renumbering (prioritised_order h o e) PriorityUpdate)
