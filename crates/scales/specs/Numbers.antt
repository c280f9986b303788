-- What a C caller's numbers stand for.
use Rattle.std.specs.Prelude.{ℕ, List, None, Some, eqb}
use Rattle.octets.specs.Choice.{pick}
use Rattle.orders.specs.declared.wanted.Wanted.{Wanted}
use Rattle.outbox.specs.declared.marks.Marks.{Marks}
use Rattle.stocks.specs.declared.standing.Standing.{Standing}
use Rattle.stocks.specs.declared.standing.Standing.TheVariants.{Trading, Halted, Unlisted}

-- the marks, named one by one
abbrev pub marks : ℕ → ℕ → Marks
marks at held = record { at = at; held = held }

abbrev pub standing_number : Standing → ℕ
standing_number Unlisted = 0
standing_number Trading = 1
standing_number Halted = 2

-- by the firm alone where the number is 0, else by the stock as well
unfoldable pub wanted_given : List ℕ → List ℕ → ℕ → Wanted
wanted_given firm symbol stocked = record { firm = firm; symbol = pick (eqb stocked 0) None (Some symbol) }
