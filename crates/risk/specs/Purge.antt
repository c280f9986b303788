-- w: a firm's orders are canceled, one with each entry (Ask 5).
use Rattle.std.specs.Prelude.{None, Some, not}
use Rattle.octets.specs.Choice.{pick, first_of◌, ◌⇒◌⨾◌}
use Rattle.octets.specs.Bytes.{all_are}
use Rattle.wire.specs.Letters.{space}
use Rattle.orders.specs.Order.{is_live}
use Rattle.rules.specs.Plan.{ignored}
use Rattle.rules.specs.Replace.{canceled_whole}
use Rattle.risk.specs.Listed.{of_listed}
use Rattle.risk.specs.Types.{Purge, Header, Order, Wanted, Decision}

-- the orders that have that firm, and that symbol unless it is eight spaces
unfoldable pub wanted_by : Purge → Wanted
wanted_by e = record { firm = e.firm; symbol = pick (all_are space e.symbol) None (Some e.symbol) }

-- Canceled U for all open of the first of them that is live and not late, and the order is dead; with none left, ignored. It asks for no open day.
-- (`o` is that order; no_order if there is none.)
unfoldable pub purge_rule : Header → Order → Purge → Decision
purge_rule h o e =
    of_listed h e.firm
    (first_of
    not (is_live o) ⇒ ignored
    ⨾ canceled_whole o)
