-- The list of stocks and its halts (Ask 2): what O and U come to, the new entry, and lists that are refused. Rows and columns as in the worked
-- numbers.
use Rattle.std.specs.Prelude.{ℕ, Bool, not, List, [], ◌∷◌, eqb}
use Rattle.octets.specs.Choice.{text}
use Rattle.octets.specs.Bytes.{same, zeros}
use Rattle.answers.specs.Answer.{answer_number}
use Rattle.stocks.specs.Stocks.{list_good, standing_in, with_state}
use Rattle.stocks.specs.Standing.{is_listed, is_halted}
use Rattle.host.specs.Step.{world, step}
use Rattle.worked.specs.Play.{small, play, ◌lending◌}
use Rattle.worked.specs.Entries.{start, good, replace, cancel, execute, halt, halted_then, begun, entered, entered_late, closing, stamped_at, ◌then◌, ◌in_stock◌}
use Rattle.worked.specs.Messages.{nothing, is_accepted_good, is_canceled, is_executed, is_rejected}
use Rattle.worked.specs.Case.{Case, after◌offer◌answers◌sends◌leaves◌, played_on, crowded, live_order, used_up, intact}

unfoldable pub halts : List Case
halts =
    -- O: well formed and listed, else S; a listed one that is halted gives H
    after begun offer good "A" in_stock "XYZ     " answers 0 sends is_rejected "A" "S" leaves
    (used_up "A" ∷ [])
    ∷ after halted_then begun offer good "A" answers 0 sends is_rejected "A" "H" leaves
    (used_up "A" ∷ [])
    -- a listed and halted one that is not well formed: S comes first
    ∷ played_on (small lending text "AB C    H") (after begun offer good "A" in_stock "AB C    " answers 0 sends is_rejected "A" "S" leaves
    (used_up "A" ∷ []))
    -- it trades again
    ∷ after halted_then begun then halt "ABC     " "T" offer good "A" answers 0 sends is_accepted_good "A" leaves
    (live_order "A" 500 0 0 500 ∷ [])
    -- U: an old stock that is halted gives Rejected H, and the replacement token is used up
    ∷ after halted_then entered offer replace "A" "B" 500 answers 0 sends is_rejected "B" "H" leaves
    (intact "A" ∷ used_up "B" ∷ [])
    -- after the late test, and before the details
    ∷ after halted_then entered_late offer replace "A" "B" 500 answers 0 sends is_rejected "B" "R" leaves
    (intact "A" ∷ used_up "B" ∷ [])
    ∷ after halted_then entered offer replace "A" "B" 100 answers 0 sends is_rejected "B" "H" leaves
    (intact "A" ∷ used_up "B" ∷ [])
    -- what else is sent in goes on
    ∷ after halted_then entered offer cancel "A" 300 answers 0 sends is_canceled "A" 200 leaves
    (live_order "A" 300 100 0 200 ∷ [])
    ∷ after halted_then entered offer execute "A" 100 answers 0 sends is_executed "A" 100 leaves
    (live_order "A" 500 200 0 300 ∷ [])
    -- h sends nothing, asks for no open day, and may be said twice
    ∷ after [] offer halt "ABC     " "H" answers 0 sends nothing leaves []
    ∷ after closing offer halt "ABC     " "H" answers 0 sends nothing leaves
    (intact "A" ∷ [])
    ∷ after halted_then begun offer halt "ABC     " "H" answers 0 sends nothing leaves []
    ∷ crowded 80 (after begun offer halt "ABC     " "H" answers 0 sends nothing leaves [])
    -- a symbol that isn't listed: 5, and an earlier stamp before that: 4
    ∷ after begun offer halt "XYZ     " "H" answers 5 sends nothing leaves []
    ∷ after begun offer stamped_at 1 (halt "XYZ     " "H") answers 4 sends nothing leaves []
    ∷ []

-- ---- the list itself

-- an entry's answer over another list and a ring of r bytes, after 500 entered, 100 executed
unfoldable pub answer_with : List ℕ → ℕ → List ℕ → ℕ
answer_with stocks r e =
    let w = (play small entered).world in
    answer_number (step (world w.books.table (zeros r) (record { at = 0; held = 0 }) stocks) e).answer

unfoldable pub stock_odds : List Bool
stock_odds =
    -- 0 places, one, two; symbols of any bytes
    list_good []
    ∷ list_good (text "ABC     T")
    ∷ list_good (text "ABC     TABD     H")
    ∷ list_good (text "!       T~       H")
    -- another length, another state, not ascending
    ∷ not (list_good (text "ABC     "))
    ∷ not (list_good (text "ABC     TA"))
    ∷ not (list_good (text "ABC     X"))
    ∷ not (list_good (text "ABC     TABD     t"))
    ∷ not (list_good (text "ABD     TABC     T"))
    ∷ not (list_good (text "ABC     TABC     H"))
    -- how a symbol stands
    ∷ is_listed (standing_in (text "ABC     TABD     H") (text "ABC     "))
    ∷ not (is_halted (standing_in (text "ABC     TABD     H") (text "ABC     ")))
    ∷ is_halted (standing_in (text "ABC     TABD     H") (text "ABD     "))
    ∷ not (is_listed (standing_in (text "ABC     TABD     H") (text "ABCD    ")))
    -- one byte is set
    ∷ same (with_state (text "ABC     TABD     T") (text "ABD     ") 72) (text "ABC     TABD     H")
    ∷ same (with_state (text "ABC     TABD     T") (text "ABE     ") 72) (text "ABC     TABD     T")
    -- 14: right after 11, before 2
    ∷ eqb (answer_with (text "ABC     X") 79 start) 11
    ∷ eqb (answer_with (text "ABC     X") 80 start) 14
    ∷ eqb (answer_with (text "ABC     X") 80 (text "Z")) 14
    ∷ eqb (answer_with (text "ABC     T") 80 (text "Z")) 2
    -- an unlisted old stock isn't halted
    ∷ eqb (answer_with (text "XYZ     H") 80 (replace "A" "B" 500)) 0
    ∷ same (step ((play small entered).world lending text "XYZ     H") (replace "A" "B" 500)).world.books.stocks (text "XYZ     H")
    ∷ []
