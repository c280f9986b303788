-- The list of stocks that the host is lent (Ask 2): up to 2,000 places of a symbol, eight bytes, and its state, T or H, strictly ascending by
-- the symbols' bytes.
use Rattle.std.specs.Prelude.{ℕ, ◌+◌, ◌-◌, ◌*◌, ◌/◌, Bool, false, ◌&&◌, ◌||◌, not, List, [], ◌∷◌, length, get_or, leb, ltb, eqb}
use Rattle.octets.specs.Choice.{pick, all_below, among, first_below, first_of◌, ◌⇒◌⨾◌}
use Rattle.octets.specs.Bytes.{part, put, same}
use Rattle.wire.specs.Letters.{stock_states, halted}
use Rattle.stocks.specs.Limits.{symbol_size, place_size, most_places}
use Rattle.stocks.specs.Standing.{Standing, Trading, Halted, Unlisted}

-- ---- places

unfoldable pub places_in : List ℕ → ℕ
places_in l = length l / place_size

unfoldable pub symbol_at : List ℕ → ℕ → List ℕ
symbol_at l i = part l (place_size * i) symbol_size

abbrev pub state_place : ℕ → ℕ
state_place i = place_size * i + symbol_size

unfoldable pub state_at : List ℕ → ℕ → ℕ
state_at l i = get_or l (state_place i) 0

-- ---- 14: a list that is longer, of another length, not ascending or with another state. Symbols are not judged otherwise

unfoldable pub size_good : List ℕ → Bool
size_good l = leb (places_in l) most_places && eqb (length l) (place_size * places_in l)

-- the order of bytes: the first that differs decides
infix 30 ◌before◌
unfoldable pub ◌before◌ : List ℕ → List ℕ → Bool
[] before ys = false
(x ∷ xs) before [] = false
(x ∷ xs) before (y ∷ ys) = ltb x y || (eqb x y && (xs before ys))

-- the symbol stands behind the one before it, and its state is one of the two
unfoldable pub place_good : List ℕ → ℕ → Bool
place_good l i = (eqb i 0 || (symbol_at l (i - 1) before symbol_at l i)) && among stock_states (state_at l i)

unfoldable pub list_good : List ℕ → Bool
list_good l = size_good l && all_below (places_in l) (place_good l)

-- ---- how a symbol stands: as the first place with it says, of all places

unfoldable pub has_symbol : List ℕ → List ℕ → ℕ → Bool
has_symbol l symbol i = same (symbol_at l i) symbol

-- the number of places where none has it
unfoldable pub place_of : List ℕ → List ℕ → ℕ
place_of l symbol = first_below (places_in l) (has_symbol l symbol)

unfoldable pub standing_in : List ℕ → List ℕ → Standing
standing_in l symbol =
    first_of
    not (ltb (place_of l symbol) (places_in l)) ⇒ Unlisted
    ⨾ eqb (state_at l (place_of l symbol)) halted ⇒ Halted
    ⨾ Trading

-- ---- h: only that one byte of the list changes

unfoldable pub with_state : List ℕ → List ℕ → ℕ → List ℕ
with_state l symbol state = pick (ltb (place_of l symbol) (places_in l)) (put l (state_place (place_of l symbol)) (state ∷ [])) l
