-- h: a stock is halted, or trades again (Ask 2).
use Rattle.std.specs.Prelude.{not}
use Rattle.octets.specs.Choice.{first_of◌, ◌⇒◌⨾◌}
use Rattle.stocks.specs.Standing.{is_listed}
use Rattle.rules.specs.Plan.{refused, setting}
use Rattle.market.specs.Types.{NotLive, Decision, Standing, StockState}

-- It sets the state and sends nothing; a symbol that isn't listed: 5. It asks for no open day, and the state that is there already is done.
-- (`stock` is how the symbol stands.)
unfoldable pub halt_rule : Standing → StockState → Decision
halt_rule stock e =
    first_of
    not (is_listed stock) ⇒ refused NotLive
    ⨾ setting e
