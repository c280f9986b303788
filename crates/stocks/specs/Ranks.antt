-- Symbols as numbers. This is about inner functions: that the numbers are in the order of the symbols' bytes is proved.
use Rattle.std.specs.Prelude.{ℕ, ◌≤◌, ◌<◌, List}
use Rattle.octets.specs.Bytes.{number_of}
use Rattle.stocks.specs.Stocks.{symbol_at}

unfoldable pub rank_at : List ℕ → ℕ → ℕ
rank_at l i = number_of (symbol_at l i)

-- r is the last of the first n places that is not above the number, or the first place of all
abbrev pub LastNotAbove : List ℕ → ℕ → ℕ → ℕ → Type 0
LastNotAbove l rank n r = (r < n) × (0 < r → rank_at l r ≤ rank) × ((j : ℕ) → r < j → j < n → rank < rank_at l j)
