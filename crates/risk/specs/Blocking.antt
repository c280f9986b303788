-- d n: a firm is blocked, or let in again (Ask 5).
use Rattle.std.specs.Prelude.{Bool}
use Rattle.header.specs.Firms.{firm_place}
use Rattle.rules.specs.Plan.{blocking}
use Rattle.risk.specs.Listed.{of_listed}
use Rattle.risk.specs.Types.{Blocking, Header, Decision}

-- The firm's bit is set by d and cleared by n, and nothing is sent. Setting what is set is done. They ask for no open day.
unfoldable pub blocking_rule : Header → Blocking → Bool → Decision
blocking_rule h e on = of_listed h e.firm (blocking (firm_place h e.firm) on)
