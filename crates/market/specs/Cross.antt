-- l f: an order is late for its cross, until the cross is done (What each entry does, l f).
use Rattle.std.specs.Prelude.{true, not, ◌&&◌, eqb}
use Rattle.octets.specs.Choice.{first_of◌, ◌⇒◌⨾◌}
use Rattle.wire.specs.Letters.{no_cross, user_requested}
use Rattle.orders.specs.Counts.{open_shares}
use Rattle.orders.specs.Order.{◌is◌, killed, marked, cleared}
use Rattle.orders.specs.declared.flags.Flag.TheVariants.{Late, Pending}
use Rattle.header.specs.Header.{is_open_day}
use Rattle.rules.specs.Plan.{allowed, changing}
use Rattle.market.specs.Guards.{market_answer}
use Rattle.market.specs.Types.{Silent, Canceled, Decision, Order, Header}

-- sets late, no message; the wrong moment if the day is not open, the cross is N or the order late already
unfoldable pub late_rule : Header → Order → Decision
late_rule h o =
    allowed (market_answer o (is_open_day h && not (eqb o.details.kept.cross no_cross) && not (o is Late)) true)
    (changing (marked o Late) Silent)

-- clears late; if pending, Canceled U for all open and pending cleared
unfoldable pub cross_done : Order → Decision
cross_done o =
    first_of
    o is Pending ⇒ changing (killed (cleared (cleared o Late) Pending)) (Canceled (open_shares o.shares) user_requested)
    ⨾ changing (cleared o Late) Silent

-- the wrong moment if not late
unfoldable pub cross_done_rule : Order → Decision
cross_done_rule o = allowed (market_answer o (o is Late) true) (cross_done o)
