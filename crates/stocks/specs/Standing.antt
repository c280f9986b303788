-- How a stock stands (Ask 2): listed and trading, listed and halted, or not listed. The rules ask this and never see the list.
use Rattle.std.specs.Prelude.{Bool, true, false}
pub use Rattle.stocks.specs.declared.standing.Standing.{Standing}
pub use Rattle.stocks.specs.declared.standing.Standing.TheVariants.{Trading, Halted, Unlisted}

abbrev pub is_listed : Standing → Bool
is_listed Trading = true
is_listed Halted = true
is_listed Unlisted = false

-- an unlisted stock isn't halted
abbrev pub is_halted : Standing → Bool
is_halted Trading = false
is_halted Halted = true
is_halted Unlisted = false
