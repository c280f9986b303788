-- s: the day begins or ends (What each entry does, s; Answer number 7).
use Rattle.std.specs.Prelude.{◌&&◌, eqb}
use Rattle.octets.specs.Choice.{first_of◌, ◌⇒◌⨾◌}
use Rattle.wire.specs.Letters.{start_of_day, end_of_day}
use Rattle.header.specs.Limits.{day_before, day_open, day_closed}
use Rattle.rules.specs.Plan.{refused, beginning}
use Rattle.market.specs.Types.{WrongMoment, Decision, Header, System}

-- System Event, sets day: S unless day 0, E unless day 1 is the wrong moment
unfoldable pub system_rule : Header → System → Decision
system_rule h e =
    first_of
    eqb e.event start_of_day && eqb h.day day_before ⇒ beginning day_open e.event
    ⨾ eqb e.event end_of_day && eqb h.day day_open ⇒ beginning day_closed e.event
    ⨾ refused WrongMoment
