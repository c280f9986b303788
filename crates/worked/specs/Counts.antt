-- What a table keeps of its live orders (Ask 6): how long it is, the two numbers after entries, what a step answers where they are wrong, and what
-- the status call says.
use Rattle.std.specs.Prelude.{ℕ, Bool, ◌&&◌, List, [], ◌∷◌, ◌++◌, Result, Ok, eqb, length, take, set, get_or}
use Rattle.octets.specs.Choice.{every}
use Rattle.octets.specs.Bytes.{all_are, same, put, digits}
use Rattle.answers.specs.declared.Refusal.{Refusal}
use Rattle.table.specs.Table.{table_size, bit_bytes, open_sum, sound}
use Rattle.table.specs.Status.{status, walked, number_told, tally_told}
use Rattle.table.specs.declared.status.Tally.{Tally}
use Rattle.worked.specs.Play.{practice, host, small, play, table_after}
use Rattle.worked.specs.Entries.{enter, good, replace, cancel, modify, execute, book_cancel, purge, all, halted_then, begun, entered, self_matched, entered_late, closing, full, ◌then◌}
use Rattle.worked.specs.Odds.{some_table, damaged, answer_over}

-- ---- a table's length, and a fresh one

unfoldable pub fresh_odds : List Bool
fresh_odds =
    -- 64 + 80n + ⌈n / 8⌉ bytes
    eqb (table_size 1) 145
    ∷ eqb (table_size 8) 705
    ∷ eqb (table_size 9) 786
    ∷ eqb (table_size 800) 64_164
    ∷ eqb (length small.books.table) 305
    -- header byte 2 is 1, nothing is open and no bit is set
    ∷ eqb (get_or small.books.table 2 0) 1
    ∷ eqb (open_sum small.books.table) 0
    ∷ same (bit_bytes small.books.table) (0 ∷ [])
    ∷ []

-- ---- the two numbers after entries

unfoldable pub says : Result Tally Refusal → ℕ → ℕ → ℕ → Bool
says told answer live shares = eqb (number_told told) answer && eqb (tally_told told).live live && eqb (tally_told told).shares shares

-- each entry is done and leaves a sound table; the status call says so many live and so many shares open, and so does a walk over the records
infix 50 after◌live◌shares◌
unfoldable pub after◌live◌shares◌ : List (List ℕ) → ℕ → ℕ → Bool
after es live n shares m =
    every
    (all_are 0 (play small es).answers
    ∷ sound (table_after es)
    ∷ says (status (table_after es)) 0 n m
    ∷ says (Ok (walked (table_after es))) 0 n m
    ∷ [])

-- the bytes of bits that entries leave on a host
unfoldable pub bits_after : ℕ → List (List ℕ) → List ℕ
bits_after n es = bit_bytes (play (host practice n 80) es).world.books.table

unfoldable pub counts : List Bool
counts =
    -- accepted, and a second one
    (after begun live 0 shares 0)
    ∷ (after begun then good "A" live 1 shares 500)
    ∷ (after begun then good "A" then good "C" live 2 shares 1_000)
    -- executed in part, and whole
    ∷ (after entered live 1 shares 400)
    ∷ (after entered then execute "A" 400 live 0 shares 0)
    -- canceled by the book in part, and whole
    ∷ (after entered then book_cancel "A" 100 "T" live 1 shares 300)
    ∷ (after entered then book_cancel "A" 400 "T" live 0 shares 0)
    -- canceled in part, and whole
    ∷ (after entered then cancel "A" 300 live 1 shares 200)
    ∷ (after entered then cancel "A" 100 live 0 shares 0)
    -- self-matched, and then canceled in part (Ask 4)
    ∷ (after self_matched live 1 shares 350)
    ∷ (after self_matched then cancel "A" 300 live 1 shares 200)
    -- modified
    ∷ (after entered then modify "A" "B" 300 live 1 shares 200)
    -- replaced by more; with bad details canceled
    ∷ (after entered then replace "A" "B" 600 live 1 shares 500)
    ∷ (after entered then replace "A" "B" 100 live 0 shares 0)
    -- a rejected token is not live, and a rejected replace leaves its order so
    ∷ (after begun then enter "A" 0 10_000 0 "N" live 0 shares 0)
    ∷ (after halted_then entered then replace "A" "B" 500 live 1 shares 400)
    -- A and C live, D rejected; one purged, and both
    ∷ (after full live 2 shares 401)
    ∷ (after full then purge "ABCD" all live 1 shares 1)
    ∷ (after full then purge "ABCD" all then purge "ABCD" all live 0 shares 0)
    -- live all the same: late, and when the day is over
    ∷ (after entered_late live 1 shares 400)
    ∷ (after closing live 1 shares 400)
    -- the lowest bit is the first record's
    ∷ same (bits_after 3 full) (3 ∷ [])
    ∷ same (bits_after 3 (full then purge "ABCD" all)) (2 ∷ [])
    -- and the lowest bit of the second byte the ninth record's
    ∷ same (bits_after 9 (begun then good "A" then good "B" then good "C" then good "D" then good "E" then good "F" then good "G" then good "H" then good "I" then cancel "B" 0))
    (253 ∷ 1 ∷ [])
    ∷ []

-- ---- 10 from a step

unfoldable pub answer_of : List ℕ → ℕ
answer_of t = answer_over t 80 0 0

unfoldable pub damages : List Bool
damages =
    -- A and C live with 401 shares open, D rejected: the bits are 3, bytes 62 and 63 are 1 and 145
    eqb (answer_of some_table) 0
    -- byte 2
    ∷ eqb (answer_of (damaged 2 0)) 10
    ∷ eqb (answer_of (damaged 2 2)) 10
    ∷ eqb (answer_of (set small.books.table 2 0)) 10
    -- a live order's bit not set; a rejected token's set; the first and the last spare bit set
    ∷ eqb (answer_of (damaged 304 1)) 10
    ∷ eqb (answer_of (damaged 304 7)) 10
    ∷ eqb (answer_of (damaged 304 11)) 10
    ∷ eqb (answer_of (damaged 304 131)) 10
    -- a dead order's bit left set, and an unused record's
    ∷ eqb (answer_of (set (table_after (full then purge "ABCD" all)) 304 3)) 10
    ∷ eqb (answer_of (set (table_after entered) 304 3)) 10
    -- the sum one too high, one too low, and not lowered when 100 of 500 were executed
    ∷ eqb (answer_of (damaged 63 146)) 10
    ∷ eqb (answer_of (damaged 63 144)) 10
    ∷ eqb (answer_of (put (table_after entered) 60 (digits 4 500))) 10
    ∷ eqb (answer_of (put (table_after entered) 60 (digits 4 400))) 0
    -- the bits cut off, and a byte behind them
    ∷ eqb (answer_of (take 304 some_table)) 10
    ∷ eqb (answer_of (some_table ++ (0 ∷ []))) 10
    ∷ []

-- ---- the status call

unfoldable pub statuses : List Bool
statuses =
    says (status small.books.table) 0 0 0
    ∷ says (status some_table) 0 2 401
    -- 10: byte 2, or a length that is no table's
    ∷ says (status (damaged 2 0)) 10 0 0
    ∷ says (status (take 304 some_table)) 10 0 0
    ∷ says (status (some_table ++ (0 ∷ []))) 10 0 0
    ∷ says (status (take 64 some_table)) 10 0 0
    ∷ says (status []) 10 0 0
    -- no more is judged: not the day, not the bits, not the sum
    ∷ says (status (damaged 0 3)) 0 2 401
    ∷ says (status (damaged 304 1)) 0 1 401
    ∷ says (status (damaged 304 131)) 0 3 401
    ∷ says (status (damaged 63 146)) 0 2 402
    ∷ []
