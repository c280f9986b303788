-- What no entry shows: damaged tables and wrong rings, the last reference, flags, the fresh call, and the ring's own calls (Table and outbox;
-- Answer numbers, in order of checking).
use Rattle.std.specs.Prelude.{ℕ, Bool, not, List, [], ◌∷◌, length, take, set, eqb}
use Prim.Native.String.{String}
use Rattle.octets.specs.Bytes.{digits, same, zeros, put}
use Rattle.answers.specs.Answer.{answer_number}
use Rattle.table.specs.Table.{order_named, sound}
use Rattle.table.specs.Fresh.{fresh_answer, fresh_table}
use Rattle.outbox.specs.Outbox.{read_run, release_answer, release_marks, ring_with}
use Rattle.outbox.specs.declared.marks.Marks.{Marks}
use Rattle.host.specs.Step.{step, world}
use Rattle.worked.specs.Play.{settings, practice, one_stock, small, play, table_after}
use Rattle.worked.specs.Entries.{token, finish, enter, good, replace, cancel, prioritise, cross_done, ◌then◌, entered, entered_late, full}

-- ---- a table that is sound, and one byte changed

unfoldable pub some_table : List ℕ
some_table = table_after full

unfoldable pub damaged : ℕ → ℕ → List ℕ
damaged at b = set some_table at b

unfoldable pub soundness : List Bool
soundness =
    sound some_table
    ∷ not (sound (damaged 0 3))  -- day
    ∷ not (sound (damaged 1 0))  -- firm count
    ∷ not (sound (damaged 1 2))  -- a second firm that is zero
    ∷ not (sound (damaged 2 0))  -- the old form (Ask 6)
    ∷ sound (damaged 3 1)  -- the one firm blocked (Ask 5)
    ∷ not (sound (damaged 3 2))  -- a bit past the firm count
    ∷ not (sound (damaged 7 4))  -- used, of three records
    ∷ sound (damaged 7 2)
    ∷ not (sound (damaged 8 1))  -- last stamp
    ∷ not (sound (damaged 16 255))  -- next reference
    ∷ not (sound (damaged 24 1))  -- threshold
    ∷ not (sound (damaged 28 32))  -- the first firm's first letter
    ∷ not (sound (damaged 32 65))  -- a firm past the count
    ∷ not (sound (damaged 63 1))  -- the sum of open shares (Ask 6)
    ∷ not (sound (damaged 64 68))  -- dead with shares open
    ∷ not (sound (damaged 64 65))  -- no state
    ∷ not (sound (damaged 65 33))  -- token
    ∷ not (sound (damaged 80 255))  -- liable
    ∷ sound (damaged 79 0)  -- a side is not judged
    ∷ sound (damaged 143 9)  -- nor is byte 79
    ∷ not (sound (damaged 303 9))  -- but in a rejected token
    ∷ not (sound (damaged 304 1))  -- the bits (Ask 6)
    ∷ not (sound (take 304 some_table))  -- a byte short
    ∷ not (sound (take 64 some_table))  -- no record
    ∷ []

-- ---- answers of a step

unfoldable pub marks : ℕ → ℕ → Marks
marks at n = record { at = at; held = n }

-- to the end of the day, over a table, a ring of r bytes, its place and its count
unfoldable pub answer_over : List ℕ → ℕ → ℕ → ℕ → ℕ
answer_over t r at n = answer_number (step (world t (zeros r) (marks at n) one_stock) finish).answer

-- to an entry where the next reference is the last, 10^18
unfoldable pub answer_at_end : List ℕ → ℕ
answer_at_end e =
    let w = (play small entered).world in
    answer_number (step (world (put w.books.table 16 (digits 8 1_000_000_000_000_000_000)) w.ring w.marks w.books.stocks) e).answer

unfoldable pub flags_after : List (List ℕ) → ℕ
flags_after es = (order_named (table_after es) (token "A")).flags

unfoldable pub step_odds : List Bool
step_odds =
    -- 10 before 11, and 11: length, place, count
    eqb (answer_over (damaged 2 0) 79 0 0) 10
    ∷ eqb (answer_over some_table 79 0 0) 11
    ∷ eqb (answer_over some_table 80 80 0) 11
    ∷ eqb (answer_over some_table 80 0 81) 11
    -- a message that wraps: one byte too few, and just enough
    ∷ eqb (answer_over some_table 80 79 71) 9
    ∷ eqb (answer_over some_table 80 79 70) 0
    -- 8: a reference is needed for Accepted, Priority Update and Replaced, not for Rejected and Canceled
    ∷ eqb (answer_at_end (good "B")) 8
    ∷ eqb (answer_at_end (prioritise "A" 5)) 8
    ∷ eqb (answer_at_end (replace "A" "B" 500)) 8
    ∷ eqb (answer_at_end (enter "B" 0 10_000 0 "N")) 0
    ∷ eqb (answer_at_end (replace "A" "B" 100)) 0
    -- flags: 1 late, 2 pending, 4 cancel reject sent, and f clears the first two
    ∷ eqb (flags_after entered_late) 1
    ∷ eqb (flags_after (entered_late then cancel "A" 300 then cancel "A" 0)) 7
    ∷ eqb (flags_after (entered_late then cancel "A" 300 then cancel "A" 0 then cross_done "A")) 4
    ∷ []

-- ---- fresh, read and release

-- the answer, of a length, a threshold, firms and their count
unfoldable pub fresh : ℕ → ℕ → List String → ℕ → ℕ
fresh size threshold firms count = answer_number (fresh_answer (zeros size) (settings threshold firms count))

unfoldable pub call_odds : List Bool
call_odds =
    eqb (fresh 145 1 ("A   " ∷ []) 1) 0
    ∷ eqb (fresh 145 1_000_000 ("A   " ∷ "BC  " ∷ []) 2) 0
    -- 10: a bad length, before bad settings
    ∷ eqb (fresh 144 0 ("A   " ∷ []) 1) 10
    ∷ eqb (fresh 64 1 ("A   " ∷ []) 1) 10
    -- 3: threshold, firm, count
    ∷ eqb (fresh 145 0 ("A   " ∷ []) 1) 3
    ∷ eqb (fresh 145 1_000_001 ("A   " ∷ []) 1) 3
    ∷ eqb (fresh 145 1 ("A A " ∷ []) 1) 3
    ∷ eqb (fresh 145 1 ("A   " ∷ []) 2) 3
    ∷ eqb (fresh 145 1 ("A   " ∷ []) 0) 3
    ∷ sound (fresh_table (zeros 145) practice)
    -- a message goes behind the held bytes and wraps
    ∷ same (ring_with (zeros 8) (marks 6 1) (1 ∷ 2 ∷ 3 ∷ [])) (2 ∷ 3 ∷ 0 ∷ 0 ∷ 0 ∷ 0 ∷ 0 ∷ 1 ∷ [])
    -- the longest unbroken run; none over a wrong length
    ∷ eqb (length (read_run (zeros 80) (marks 70 30))) 10
    ∷ eqb (length (read_run (zeros 79) (marks 70 30))) 0
    -- 12: a release above the held count; the place goes around
    ∷ eqb (answer_number (release_answer 80 (marks 70 30) 31)) 12
    ∷ eqb (answer_number (release_answer 80 (marks 70 30) 30)) 0
    ∷ eqb (release_marks 80 (marks 70 30) 30).at 20
    ∷ eqb (release_marks 80 (marks 70 30) 10).at 0
    ∷ []
