-- The order of the reject letters, pair by pair (What each entry does, O: the first that applies). The cases are made from a table of faults.
use Rattle.std.specs.Prelude.{ℕ, List, [], ◌∷◌, ◌++◌, map}
use Prim.Native.String.{String}
use Rattle.octets.specs.Choice.{text}
use Rattle.octets.specs.Bytes.{digits, put}
use Rattle.worked.specs.Entries.{good, begun, halted_then, blocked_then, ◌in_stock◌, ◌for_firm◌, ◌displayed◌, ◌at_least◌}
use Rattle.worked.specs.Messages.{is_rejected}
use Rattle.worked.specs.Case.{Case, after◌offer◌answers◌sends◌leaves◌, used_up}

-- its letter, what went before, and what it does to the bytes of an Enter
pub record Fault : Type 0 where
  pub letter : String
  pub before : List (List ℕ)
  pub spoils : List ℕ → List ℕ

abbrev pub fault : String → List (List ℕ) → (List ℕ → List ℕ) → Fault
fault letter before spoils = record { letter = letter; before = before; spoils = spoils }

-- in the paper's order
unfoldable pub faults : List Fault
faults =
    fault "C" [] (λ e. e)  -- day not open: nothing went before
    ∷ fault "L" begun (λ e. e for_firm "WXYZ")  -- firm not listed
    ∷ fault "a" (blocked_then begun) (λ e. e)  -- firm blocked; a blank one means the default (Ask 5)
    ∷ fault "S" begun (λ e. e in_stock "AB C    ")  -- stock not capitals, then spaces
    ∷ fault "H" (halted_then begun) (λ e. e)  -- stock halted (Ask 2)
    ∷ fault "R" begun (λ e. put e 55 (text "S"))  -- cross not N O C
    ∷ fault "D" begun (λ e. e displayed "Z")  -- no such display
    ∷ fault "X" begun (λ e. put e 36 (digits 4 0))  -- price 0
    ∷ fault "Z" begun (λ e. put e 24 (digits 4 0))  -- shares 0
    ∷ fault "N" begun (λ e. e at_least 501)  -- minimum above shares
    ∷ []

-- an entry with one fault gets its letter
unfoldable pub alone : Fault → Case
alone f =
    after f.before offer f.spoils (good "A") answers 0 sends is_rejected "A" f.letter leaves
    (used_up "A" ∷ [])

-- an entry with two gets the letter of the earlier one
unfoldable pub both : Fault → Fault → Case
both f g =
    after f.before offer f.spoils (g.spoils (good "A")) answers 0 sends is_rejected "A" f.letter leaves
    (used_up "A" ∷ [])

-- C L, L a, a S, S H, H R, R D, D X, X Z, Z N
unfoldable pub neighbours : List Fault → List Case
neighbours [] = []
neighbours (f ∷ []) = []
neighbours (f ∷ g ∷ fs) = both f g ∷ neighbours (g ∷ fs)

unfoldable pub rejects : List Case
rejects = map alone faults ++ neighbours faults
