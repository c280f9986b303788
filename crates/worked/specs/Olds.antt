-- Old tables (Ask 6): what the converter answers, and that what it makes of one is, byte by byte, the table that the same entries leave today.
use Rattle.std.specs.Prelude.{ℕ, Bool, List, [], ◌∷◌, eqb, take, set, replicate}
use Rattle.octets.specs.Bytes.{same, put, zeros}
use Rattle.answers.specs.Answer.{answer_number}
use Rattle.table.specs.Table.{record_place, records_in}
use Rattle.convert.specs.Convert.{convert_answer, converted}
use Rattle.worked.specs.Play.{table_after}
use Rattle.worked.specs.Entries.{replace, cancel, purge, all, begun, entered, self_matched, entered_late, closing, full, ◌then◌}
use Rattle.worked.specs.Counts.{answer_of}

-- the table that entries left before: byte 2 and bytes 60-63 zero, and no bits
unfoldable pub old_after : List (List ℕ) → List ℕ
old_after es =
    let t = table_after es in
    put (put (take (record_place (records_in t)) t) 2 (zeros 1)) 60 (zeros 4)

-- whatever the second buffer holds
unfoldable pub rebuilt : List (List ℕ) → Bool
rebuilt es = same (converted (old_after es) (replicate 305 255)) (table_after es)

-- the answer, of an old table and a buffer of so many bytes
unfoldable pub answer_into : List ℕ → ℕ → ℕ
answer_into old m = answer_number (convert_answer old m)

unfoldable pub olds : List Bool
olds =
    rebuilt []
    ∷ rebuilt begun
    ∷ rebuilt entered
    ∷ rebuilt self_matched
    ∷ rebuilt entered_late
    ∷ rebuilt closing
    ∷ rebuilt (entered then replace "A" "B" 600)
    ∷ rebuilt (entered then cancel "A" 0)
    ∷ rebuilt full
    ∷ rebuilt (full then purge "ABCD" all)
    -- 10: not sound in its old form, before 13
    ∷ eqb (answer_into (set (old_after full) 0 3) 304) 10
    ∷ eqb (answer_into (set (old_after full) 0 3) 305) 10
    ∷ eqb (answer_into (set (old_after full) 64 65) 305) 10
    ∷ eqb (answer_into (set (old_after full) 2 1) 305) 10
    ∷ eqb (answer_into (set (old_after full) 63 1) 305) 10
    ∷ eqb (answer_into (table_after full) 305) 10
    ∷ eqb (answer_into (take 303 (old_after full)) 305) 10
    -- 13: the buffer a byte short, and a byte long
    ∷ eqb (answer_into (old_after full) 304) 13
    ∷ eqb (answer_into (old_after full) 306) 13
    ∷ eqb (answer_into (old_after full) 305) 0
    -- with another answer than 0 it holds what it held
    ∷ same (converted (set (old_after full) 0 3) (replicate 305 255)) (replicate 305 255)
    ∷ same (converted (old_after full) (replicate 304 255)) (replicate 304 255)
    -- a step takes no old table
    ∷ eqb (answer_of (old_after full)) 10
    ∷ []
