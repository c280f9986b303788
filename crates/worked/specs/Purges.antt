-- The purge button (Ask 5): what w cancels, whom d and n block, and header byte 3. Rows and columns as in the worked numbers.
use Rattle.std.specs.Prelude.{ℕ, Bool, List, [], ◌∷◌, eqb, get_or}
use Rattle.octets.specs.Bytes.{put}
use Rattle.answers.specs.Answer.{answer_number}
use Rattle.host.specs.Step.{World, world, step}
use Rattle.worked.specs.Play.{settings, host, small, play}
use Rattle.worked.specs.Entries.{start, good, replace, cancel, execute, purge, all, disable, enable, blocked_then, begun, entered, self_matched, entered_late, closing, stamped_at, ◌then◌, ◌for_firm◌}
use Rattle.worked.specs.Messages.{nothing, is_accepted_good, is_replaced, is_canceled, is_executed, is_rejected}
use Rattle.worked.specs.Case.{Case, after◌offer◌answers◌sends◌leaves◌, played_on, crowded, live_order, dead_order, used_up, intact}

-- two firms
unfoldable pub two : World
two = host (settings 1_000_000 ("ABCD" ∷ "WXYZ" ∷ []) 2) 3 80

unfoldable pub purges : List Case
purges =
    -- all that is open is canceled, with reason U, and the order is dead; what was executed and self-matched stays
    after entered offer purge "ABCD" all answers 0 sends is_canceled "A" 400 leaves
    (dead_order "A" 100 100 0 0 ∷ [])
    ∷ after self_matched offer purge "ABCD" all answers 0 sends is_canceled "A" 350 leaves
    (dead_order "A" 150 100 50 0 ∷ [])
    -- in that symbol, unless spaces
    ∷ after entered offer purge "ABCD" "ABC     " answers 0 sends is_canceled "A" 400 leaves
    (dead_order "A" 100 100 0 0 ∷ [])
    ∷ after entered offer purge "ABCD" "XYZ     " answers 1 sends nothing leaves
    (intact "A" ∷ [])
    -- the first in record order, and with the next w the next; with none left it is ignored
    ∷ after entered then good "C" offer purge "ABCD" all answers 0 sends is_canceled "A" 400 leaves
    (dead_order "A" 100 100 0 0 ∷ intact "C" ∷ [])
    ∷ after entered then good "C" then purge "ABCD" all offer purge "ABCD" all answers 0 sends is_canceled "C" 500 leaves
    (intact "A" ∷ dead_order "C" 0 0 0 0 ∷ [])
    ∷ after entered then good "C" then purge "ABCD" all then purge "ABCD" all offer purge "ABCD" all answers 1 sends nothing leaves
    (intact "A" ∷ intact "C" ∷ [])
    -- a late order is passed over
    ∷ after entered_late offer purge "ABCD" all answers 1 sends nothing leaves
    (intact "A" ∷ [])
    ∷ after entered_late then good "C" offer purge "ABCD" all answers 0 sends is_canceled "C" 500 leaves
    (intact "A" ∷ dead_order "C" 0 0 0 0 ∷ [])
    -- another firm's order too
    ∷ played_on two (after begun then (good "A" for_firm "WXYZ") then good "C" offer purge "ABCD" all answers 0 sends is_canceled "C" 500 leaves
    (intact "A" ∷ dead_order "C" 0 0 0 0 ∷ []))
    -- it asks for no open day
    ∷ after [] offer purge "ABCD" all answers 1 sends nothing leaves []
    ∷ after closing offer purge "ABCD" all answers 0 sends is_canceled "A" 400 leaves
    (dead_order "A" 100 100 0 0 ∷ [])
    -- the firm must be listed, and blank means no other here: 15; right after 4
    ∷ after entered offer purge "WXYZ" all answers 15 sends nothing leaves
    (intact "A" ∷ [])
    ∷ after entered offer purge "    " all answers 15 sends nothing leaves
    (intact "A" ∷ [])
    ∷ after entered offer stamped_at 1 (purge "WXYZ" all) answers 4 sends nothing leaves
    (intact "A" ∷ [])
    -- and before 1
    ∷ after begun offer purge "WXYZ" all answers 15 sends nothing leaves []
    -- 28 bytes are needed where there is an order, and none where there is none
    ∷ crowded 53 (after entered offer purge "ABCD" all answers 9 sends nothing leaves
    (intact "A" ∷ []))
    ∷ crowded 80 (after begun offer purge "ABCD" all answers 1 sends nothing leaves [])
    -- the token stays used
    ∷ after entered then purge "ABCD" all offer good "A" answers 1 sends nothing leaves
    (intact "A" ∷ [])
    ∷ []

unfoldable pub blocks : List Case
blocks =
    -- a new order of a blocked firm is Rejected a, whether it names the firm or means it
    after blocked_then begun offer good "A" answers 0 sends is_rejected "A" "a" leaves
    (used_up "A" ∷ [])
    ∷ after blocked_then begun offer good "A" for_firm "ABCD" answers 0 sends is_rejected "A" "a" leaves
    (used_up "A" ∷ [])
    -- right after L
    ∷ after blocked_then begun offer good "A" for_firm "WXYZ" answers 0 sends is_rejected "A" "L" leaves
    (used_up "A" ∷ [])
    -- another firm's goes on
    ∷ played_on two (after blocked_then begun offer good "A" for_firm "WXYZ" answers 0 sends is_accepted_good "A" for_firm "WXYZ" leaves
    (live_order "A" 500 0 0 500 ∷ []))
    -- and let in again
    ∷ after blocked_then begun then enable "ABCD" offer good "A" answers 0 sends is_accepted_good "A" leaves
    (live_order "A" 500 0 0 500 ∷ [])
    -- replaces go on, and so does all else
    ∷ after blocked_then entered offer replace "A" "B" 500 answers 0 sends is_replaced "A" "B" 400 leaves
    (dead_order "A" 100 100 0 0 ∷ live_order "B" 500 100 0 400 ∷ [])
    ∷ after blocked_then entered offer cancel "A" 300 answers 0 sends is_canceled "A" 200 leaves
    (live_order "A" 300 100 0 200 ∷ [])
    ∷ after blocked_then entered offer execute "A" 100 answers 0 sends is_executed "A" 100 leaves
    (live_order "A" 500 200 0 300 ∷ [])
    ∷ after blocked_then entered offer purge "ABCD" all answers 0 sends is_canceled "A" 400 leaves
    (dead_order "A" 100 100 0 0 ∷ [])
    -- they send nothing, ask for no open day, and setting what is set is done
    ∷ crowded 80 (after entered offer disable "ABCD" answers 0 sends nothing leaves
    (intact "A" ∷ []))
    ∷ after [] offer disable "ABCD" answers 0 sends nothing leaves []
    ∷ after closing offer enable "ABCD" answers 0 sends nothing leaves
    (intact "A" ∷ [])
    ∷ after blocked_then begun offer disable "ABCD" answers 0 sends nothing leaves []
    ∷ after begun offer enable "ABCD" answers 0 sends nothing leaves []
    -- the firm must be listed: 15, right after 4
    ∷ after begun offer disable "WXYZ" answers 15 sends nothing leaves []
    ∷ after begun offer enable "    " answers 15 sends nothing leaves []
    ∷ after begun offer stamped_at 1 (disable "WXYZ") answers 4 sends nothing leaves []
    ∷ []

-- ---- header byte 3

-- the first firm is listed once more in the third place
unfoldable pub twice : World
twice = host (settings 1_000_000 ("ABCD" ∷ "WXYZ" ∷ "ABCD" ∷ []) 3) 1 80

unfoldable pub byte3 : List (List ℕ) → ℕ
byte3 es = get_or (play twice es).world.books.table 3 0

-- what a fresh table of one firm answers with this byte 3
unfoldable pub with_byte3 : ℕ → ℕ
with_byte3 b = answer_number (step (world (put small.books.table 3 (b ∷ [])) small.ring small.marks small.books.stocks) start).answer

unfoldable pub byte3_odds : List Bool
byte3_odds =
    -- 0 in a fresh table; the lowest bit for the first firm, and a firm listed twice uses its first place
    eqb (byte3 []) 0
    ∷ eqb (byte3 (disable "ABCD" ∷ [])) 1
    ∷ eqb (byte3 (disable "WXYZ" ∷ [])) 2
    ∷ eqb (byte3 (disable "WXYZ" ∷ disable "ABCD" ∷ disable "ABCD" ∷ [])) 3
    ∷ eqb (byte3 (disable "WXYZ" ∷ disable "ABCD" ∷ enable "ABCD" ∷ enable "ABCD" ∷ [])) 2
    -- no bit past the firm count
    ∷ eqb (with_byte3 0) 0
    ∷ eqb (with_byte3 1) 0
    ∷ eqb (with_byte3 2) 10
    ∷ eqb (with_byte3 128) 10
    ∷ []
