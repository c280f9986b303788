-- An old table of two records, one of them used, and what becomes of it byte by byte; and what is refused, in its order (Ask 6).
use Rattle.std.specs.Prelude.{ℕ, Bool, not, ◌&&◌, List, [], ◌∷◌, ◌++◌, eqb}
use Rattle.octets.specs.Choice.{text}
use Rattle.octets.specs.Bytes.{put, zeros, digits, same}
use Rattle.answers.specs.Answer.{answer_number}
use Rattle.table.specs.Table.{sound}
use Rattle.convert.specs.Old.{old_sound}
use Rattle.convert.specs.Convert.{convert_answer, converted}

-- bytes 0-63: an open day, one firm, this form, no firm blocked, one record used, last stamp 7, next reference 2, threshold 1,000,000, firm ABCD, and
-- these shares open
unfoldable pub head : ℕ → ℕ → List ℕ
head form shares =
    (1 ∷ 1 ∷ form ∷ 0 ∷ []) ++ digits 4 1 ++ digits 8 7 ++ digits 8 2 ++ digits 4 1_000_000 ++ text "ABCD" ++ zeros 28 ++ digits 4 shares

-- a live order of 500 shares, 100 of them executed; and an unused record, which holds whatever it held
unfoldable pub records : List ℕ
records = text "LTOKEN A       B" ++ digits 4 500 ++ digits 4 100 ++ zeros 56 ++ text "L" ++ zeros 79

unfoldable pub old_table : List ℕ
old_table = head 0 0 ++ records

-- 400 shares are open, and the bit of the first record is set
unfoldable pub new_table : List ℕ
new_table = head 1 400 ++ records ++ (1 ∷ [])

-- over a buffer of so many bytes: what the converter answers, and what the buffer holds then
unfoldable pub comes_to : List ℕ → ℕ → ℕ → List ℕ → Bool
comes_to old m answer left = eqb (answer_number (convert_answer old m)) answer && same (converted old (zeros m)) left

unfoldable pub examples : List Bool
examples =
    comes_to old_table 225 0 new_table
    ∷ old_sound old_table
    ∷ sound new_table
    ∷ not (sound old_table)
    ∷ comes_to old_table 224 13 (zeros 224)
    ∷ comes_to old_table 226 13 (zeros 226)
    ∷ comes_to new_table 225 10 (zeros 225)
    ∷ comes_to (head 1 0 ++ records) 225 10 (zeros 225)  -- byte 2
    ∷ comes_to (head 0 1 ++ records) 225 10 (zeros 225)  -- bytes 60-63
    ∷ comes_to (put old_table 4 (digits 4 2)) 225 10 (zeros 225)  -- the second record is used, and not sound
    ∷ comes_to (put old_table 4 (digits 4 3)) 225 10 (zeros 225)  -- more are used than there are
    ∷ comes_to (old_table ++ (0 ∷ [])) 225 10 (zeros 225)  -- a byte too many
    ∷ comes_to [] 224 10 (zeros 224)  -- 10 before 13
    ∷ []
