-- The paper's worked numbers (Worked numbers), by its own numbers: the starred ones as one list, and the others.
--
-- Each row says: after what went before, offer an entry; it answers a number, sends a message and leaves orders so.
-- The columns of an order: token, liable, executed, self-matched, open.
use Rattle.std.specs.Prelude.{List, [], ◌∷◌}
use Rattle.worked.specs.Entries.{enter, replace, cancel, modify, good, begun, entered, self_matched, entered_late}
use Rattle.worked.specs.Messages.{is_accepted, is_accepted_good, is_replaced, is_canceled, is_modified, is_rejected, nothing}
use Rattle.worked.specs.Case.{Case, after◌offer◌answers◌sends◌leaves◌, crowded, live_order, dead_order, free, used_up, intact, time_stored}

-- ---- the starred ones

unfoldable pub starred : List Case
starred =
    -- from 500 entered, 100 executed
    -- 1: Replace 500: Replaced 400
    after entered offer replace "A" "B" 500 answers 0 sends is_replaced "A" "B" 400 leaves
    (dead_order "A" 100 100 0 0 ∷ live_order "B" 500 100 0 400 ∷ [])
    -- 2: Replace 600: Replaced 500
    ∷ after entered offer replace "A" "B" 600 answers 0 sends is_replaced "A" "B" 500 leaves
    (dead_order "A" 100 100 0 0 ∷ live_order "B" 600 100 0 500 ∷ [])
    -- 3: Replace 100: Canceled 400, token free
    ∷ after entered offer replace "A" "B" 100 answers 0 sends is_canceled "A" 400 leaves
    (dead_order "A" 100 100 0 0 ∷ free "B" ∷ [])
    -- 3: Replace 101: Replaced 1
    ∷ after entered offer replace "A" "B" 101 answers 0 sends is_replaced "A" "B" 1 leaves
    (dead_order "A" 100 100 0 0 ∷ live_order "B" 101 100 0 1 ∷ [])
    -- 4: Cancel 300: decrement 200, open 200
    ∷ after entered offer cancel "A" 300 answers 0 sends is_canceled "A" 200 leaves
    (live_order "A" 300 100 0 200 ∷ [])
    -- 5: Cancel 50: decrement 400, dead
    ∷ after entered offer cancel "A" 50 answers 0 sends is_canceled "A" 400 leaves
    (dead_order "A" 100 100 0 0 ∷ [])
    -- 5: Cancel 500: ignored
    ∷ after entered offer cancel "A" 500 answers 1 sends nothing leaves
    (live_order "A" 500 100 0 400 ∷ intact "A" ∷ [])
    -- 6: Self match 50, then Replace 500: Replaced 350
    ∷ after self_matched offer replace "A" "B" 500 answers 0 sends is_replaced "A" "B" 350 leaves
    (dead_order "A" 150 100 50 0 ∷ live_order "B" 500 100 50 350 ∷ [])
    -- 7: Self match 50, then Cancel 300: decrement 150, open 200 (Ask 4)
    ∷ after self_matched offer cancel "A" 300 answers 0 sends is_canceled "A" 150 leaves
    (live_order "A" 350 100 50 200 ∷ [])
    -- 8: Modify 300: Modified 200
    ∷ after entered offer modify "A" "B" 300 answers 0 sends is_modified "A" "B" 200 leaves
    (live_order "A" 300 100 0 200 ∷ [])
    -- 8: Modify 501: ignored
    ∷ after entered offer modify "A" "B" 501 answers 1 sends nothing leaves
    (live_order "A" 500 100 0 400 ∷ intact "A" ∷ [])
    -- 9: Replace 1,000,000 while late: Rejected R, order intact
    ∷ after entered_late offer replace "A" "B" 1_000_000 answers 0 sends is_rejected "B" "R" leaves
    (live_order "A" 500 100 0 400 ∷ intact "A" ∷ used_up "B" ∷ [])
    -- on entry
    -- 10: time in force 100,000: accepted as 99,999
    ∷ after begun offer enter "A" 500 10_000 100_000 "N" answers 0 sends is_accepted "A" 500 10_000 99_999 "N" leaves
    (live_order "A" 500 0 0 500 ∷ time_stored "A" 99_999 ∷ [])
    -- 11: price 1,999,999,900: accepted
    ∷ after begun offer enter "A" 500 1_999_999_900 0 "N" answers 0 sends is_accepted "A" 500 1_999_999_900 0 "N" leaves
    (live_order "A" 500 0 0 500 ∷ [])
    -- 11: price 1,999,999,901: X
    ∷ after begun offer enter "A" 500 1_999_999_901 0 "N" answers 0 sends is_rejected "A" "X" leaves
    (used_up "A" ∷ [])
    -- 12: price 2,147,483,647 with cross N: X
    ∷ after begun offer enter "A" 500 2_147_483_647 0 "N" answers 0 sends is_rejected "A" "X" leaves
    (used_up "A" ∷ [])
    ∷ []

-- ---- the others

unfoldable pub unstarred : List Case
unstarred =
    -- 13: shares 999,999 under threshold 1,000,000: accepted
    after begun offer enter "A" 999_999 10_000 0 "N" answers 0 sends is_accepted "A" 999_999 10_000 0 "N" leaves
    (live_order "A" 999_999 0 0 999_999 ∷ [])
    -- 13: shares 1,000,000: Z
    ∷ after begun offer enter "A" 1_000_000 10_000 0 "N" answers 0 sends is_rejected "A" "Z" leaves
    (used_up "A" ∷ [])
    -- 13: shares 0: Z
    ∷ after begun offer enter "A" 0 10_000 0 "N" answers 0 sends is_rejected "A" "Z" leaves
    (used_up "A" ∷ [])
    -- 14: Replace that names one token twice: ignored
    ∷ after entered offer replace "A" "A" 500 answers 1 sends nothing leaves
    (live_order "A" 500 100 0 400 ∷ intact "A" ∷ [])
    -- 15: a ring of 80 with 15 held has 65 free: Accepted is blocked, and the token is free
    ∷ crowded 15 (after begun offer good "A" answers 9 sends nothing leaves
    (free "A" ∷ []))
    -- 15: with 14 held it has 66 free: done
    ∷ crowded 14 (after begun offer good "A" answers 0 sends is_accepted_good "A" leaves
    (live_order "A" 500 0 0 500 ∷ []))
    ∷ []
