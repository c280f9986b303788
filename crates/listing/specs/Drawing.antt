-- A ring drawn in 64 cells, with its marks behind them.
use Rattle.std.specs.Prelude.{ℕ, zero, suc, ◌+◌, ◌*◌, ◌/◌, Bool, ◌&&◌, ◌||◌, List, [], ◌∷◌, ◌++◌, leb, ltb}
use Prim.Native.Char.{code}
use Rattle.octets.specs.Choice.{first_of◌, ◌⇒◌⨾◌, text}
use Rattle.octets.specs.Bytes.{joined}
use Rattle.listing.specs.Lines.{decimal, newline}

abbrev pub cell_count : ℕ
cell_count = 64

-- the place at which cell k of a ring begins
abbrev pub first_place : ℕ → ℕ → ℕ
first_place size k = size * k / cell_count

-- a place lies in the held part, which may go on at the ring's start
abbrev pub is_held : ℕ → ℕ → ℕ → ℕ → Bool
is_held size at held place = (leb at place && ltb place (at + held)) || ltb (place + size) (at + held)

-- the read place lies in cell k
abbrev pub is_read_place : ℕ → ℕ → ℕ → Bool
is_read_place size at k = leb (first_place size k) at && ltb at (first_place size (k + 1))

-- the read place; otherwise held or free, as the cell's first byte is
unfoldable pub cell : ℕ → ℕ → ℕ → ℕ → ℕ
cell size at held k =
    first_of
    is_read_place size at k ⇒ code ">"
    ⨾ is_held size at held (first_place size k) ⇒ code "#"
    ⨾ code "."

-- the first n cells
unfoldable pub cells : ℕ → ℕ → ℕ → ℕ → List ℕ
cells size at held zero = []
cells size at held (suc n) = cells size at held n ++ (cell size at held n ∷ [])

unfoldable pub drawing : ℕ → ℕ → ℕ → List ℕ
drawing size at held =
    joined
    (cells size at held cell_count ∷ text " at " ∷ decimal at ∷ text " held " ∷ decimal held ∷ text " of " ∷ decimal size ∷ (newline ∷ []) ∷ [])
