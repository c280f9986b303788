-- How long a list of stocks and its places are (Ask 2), each number once.
use Rattle.std.specs.Prelude.{ℕ}

abbrev pub symbol_size : ℕ
symbol_size = 8

-- a symbol and its state
abbrev pub place_size : ℕ
place_size = 9

abbrev pub most_places : ℕ
most_places = 2_000
