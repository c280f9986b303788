-- Both sides of what the paper's sentences say, beside its worked numbers: what clients send, what the engine tells, and the order of the
-- answers. Rows and columns as in the worked numbers.
use Rattle.std.specs.Prelude.{List, [], ◌∷◌, ◌++◌}
use Rattle.octets.specs.Choice.{text}
use Rattle.octets.specs.Bytes.{put}
use Rattle.worked.specs.Entries.{stamp, start, finish, enter, good, replace_as, replace, cancel, modify, execute, self_match, book_cancel, prioritise, late, cross_done, stamped_at, ◌on_side◌, ◌in_stock◌, ◌for_firm◌, ◌displayed◌, ◌in_capacity◌, ◌swept◌, ◌at_least◌, ◌then◌, begun, entered, self_matched, entered_late, self_matched_late, closing, full, sold}
use Rattle.worked.specs.Messages.{nothing, is_system_event, is_accepted, is_accepted_good, is_replaced_as, is_replaced, is_canceled_for, is_canceled, is_modified, is_rejected, is_executed, is_aiq_cancelled, is_cancel_pending, is_cancel_reject, is_priority_update}
use Rattle.worked.specs.Case.{Case, after◌offer◌answers◌sends◌leaves◌, crowded, live_order, dead_order, free, used_up, intact, time_stored}

-- ---- what clients send

unfoldable pub enter_edges : List Case
enter_edges =
    -- a used token, live or rejected: ignored
    after entered offer good "A" answers 1 sends nothing leaves []
    ∷ after (begun then enter "A" 0 10_000 0 "N") offer good "A" answers 1 sends nothing leaves (used_up "A" ∷ [])
    -- C: the day has not begun, or is over
    ∷ after [] offer good "B" answers 0 sends is_rejected "B" "C" leaves (used_up "B" ∷ [])
    ∷ after closing offer good "B" answers 0 sends is_rejected "B" "C" leaves (used_up "B" ∷ [])
    -- L: a listed firm by its name, and one that differs in a letter
    ∷ after begun offer good "A" for_firm "ABCD" answers 0 sends is_accepted_good "A" leaves []
    ∷ after begun offer good "A" for_firm "ABCE" answers 0 sends is_rejected "A" "L" leaves []
    -- S: a space among the capitals, and no capital at all
    ∷ after begun offer good "A" in_stock "AB C    " answers 0 sends is_rejected "A" "S" leaves []
    ∷ after begun offer good "A" in_stock "        " answers 0 sends is_rejected "A" "S" leaves []
    -- R: a cross that is not N O C
    ∷ after begun offer enter "A" 500 10_000 0 "S" answers 0 sends is_rejected "A" "R" leaves []
    -- D: no such display; I with cross N
    ∷ after begun offer good "A" displayed "Z" answers 0 sends is_rejected "A" "D" leaves []
    ∷ after begun offer good "A" displayed "I" answers 0 sends is_rejected "A" "D" leaves []
    -- X: the market price in a cross, and price 0
    ∷ after begun offer enter "A" 500 2_147_483_647 0 "O" answers 0 sends is_accepted "A" 500 2_147_483_647 0 "O" leaves []
    ∷ after begun offer enter "A" 500 0 0 "O" answers 0 sends is_rejected "A" "X" leaves []
    -- N: a minimum with a time in force, and one above the shares
    ∷ after begun offer enter "A" 500 10_000 1 "N" at_least 1 answers 0 sends is_rejected "A" "N" leaves []
    ∷ after begun offer good "A" at_least 501 answers 0 sends is_rejected "A" "N" leaves []
    -- capacity outside A P R becomes O
    ∷ after begun offer good "A" in_capacity "Z" answers 0 sends put (is_accepted_good "A") 57 (text "O") leaves []
    ∷ []

unfoldable pub replace_edges : List Case
replace_edges =
    -- the existing token is free, or was replaced before; the replacement token is the existing one, when the day is over too: ignored
    after entered offer replace "B" "C" 500 answers 1 sends nothing leaves []
    ∷ after (entered then replace "A" "B" 500) offer replace "A" "C" 500 answers 1 sends nothing leaves []
    ∷ after closing offer replace "A" "A" 500 answers 1 sends nothing leaves []
    -- day not open: C, also while late; the replacement token is used up and the order intact
    ∷ after closing offer replace "A" "B" 500 answers 0 sends is_rejected "B" "C" leaves (intact "A" ∷ used_up "B" ∷ [])
    ∷ after (entered_late then finish) offer replace "A" "B" 500 answers 0 sends is_rejected "B" "C" leaves (intact "A" ∷ used_up "B" ∷ [])
    -- shares 0, and not below threshold: bad details
    ∷ after entered offer replace "A" "B" 0 answers 0 sends is_canceled "A" 400 leaves (free "B" ∷ [])
    ∷ after entered offer replace "A" "B" 1_000_000 answers 0 sends is_canceled "A" 400 leaves (free "B" ∷ [])
    -- display I with cross N: bad details
    ∷ after entered offer replace_as "A" "B" 500 0 "I" 0 answers 0 sends is_canceled "A" 400 leaves (free "B" ∷ [])
    -- minimum against the new open: 400 is Replaced, 401 Canceled; and 1 with a time in force is Canceled
    ∷ after entered offer replace_as "A" "B" 500 0 "Y" 400 answers 0 sends is_replaced_as "A" "B" 400 0 400 leaves
    (dead_order "A" 100 100 0 0 ∷ live_order "B" 500 100 0 400 ∷ [])
    ∷ after entered offer replace_as "A" "B" 500 0 "Y" 401 answers 0 sends is_canceled "A" 400 leaves
    (dead_order "A" 100 100 0 0 ∷ free "B" ∷ [])
    ∷ after entered offer replace_as "A" "B" 500 1 "Y" 1 answers 0 sends is_canceled "A" 400 leaves (free "B" ∷ [])
    -- time in force above 99,999 becomes 99,999
    ∷ after entered offer replace_as "A" "B" 500 100_000 "Y" 0 answers 0 sends is_replaced "A" "B" 400 leaves (time_stored "B" 99_999 ∷ [])
    -- what was executed is carried over: Cancel 100 ends the replacement
    ∷ after (entered then replace "A" "B" 500) offer cancel "B" 100 answers 0 sends is_canceled "B" 400 leaves
    (dead_order "B" 100 100 0 0 ∷ [])
    -- flags are not: a Cancel Reject is sent once more for the replacement
    ∷ after (entered_late then cancel "A" 300 then cross_done "A" then replace "A" "B" 500 then late "B") offer cancel "B" 300 answers 0 sends
    is_cancel_reject "B" leaves []
    ∷ []

unfoldable pub cancel_edges : List Case
cancel_edges =
    -- late and size 0: Cancel Pending, once
    after entered_late offer cancel "A" 0 answers 0 sends is_cancel_pending "A" leaves (live_order "A" 500 100 0 400 ∷ [])
    ∷ after (entered_late then cancel "A" 0) offer cancel "A" 0 answers 1 sends nothing leaves []
    -- late, size above 0: Cancel Reject once a token, and then a Cancel 0 is still pending
    ∷ after entered_late offer cancel "A" 300 answers 0 sends is_cancel_reject "A" leaves (live_order "A" 500 100 0 400 ∷ [])
    ∷ after (entered_late then cancel "A" 300) offer cancel "A" 300 answers 1 sends nothing leaves []
    ∷ after (entered_late then cancel "A" 300) offer cancel "A" 0 answers 0 sends is_cancel_pending "A" leaves []
    -- new open not below the present open, late too: ignored
    ∷ after entered_late offer cancel "A" 500 answers 1 sends nothing leaves []
    -- no longer late: Canceled; late again: the Cancel Reject was sent before
    ∷ after (entered_late then cancel "A" 300 then cross_done "A") offer cancel "A" 300 answers 0 sends is_canceled "A" 200 leaves []
    ∷ after (entered_late then cancel "A" 300 then cross_done "A" then late "A") offer cancel "A" 300 answers 1 sends nothing leaves []
    -- the day doesn't matter
    ∷ after closing offer cancel "A" 0 answers 0 sends is_canceled "A" 400 leaves (dead_order "A" 100 100 0 0 ∷ [])
    ∷ []

-- (Ask 4) 500 entered, 100 executed, 50 self-matched, 350 open
unfoldable pub size_edges : List Case
size_edges =
    -- size not above executed: new open 0, dead
    after self_matched offer cancel "A" 0 answers 0 sends is_canceled "A" 350 leaves (dead_order "A" 150 100 50 0 ∷ [])
    ∷ after self_matched offer cancel "A" 99 answers 0 sends is_canceled "A" 350 leaves (dead_order "A" 150 100 50 0 ∷ [])
    ∷ after self_matched offer cancel "A" 100 answers 0 sends is_canceled "A" 350 leaves (dead_order "A" 150 100 50 0 ∷ [])
    -- executed + 1; executed + self-matched: shares lost to self match aren't executions
    ∷ after self_matched offer cancel "A" 101 answers 0 sends is_canceled "A" 349 leaves (live_order "A" 151 100 50 1 ∷ [])
    ∷ after self_matched offer cancel "A" 150 answers 0 sends is_canceled "A" 300 leaves (live_order "A" 200 100 50 50 ∷ [])
    -- executed + open − 1; executed + open, executed + self-matched + open − 1 and executed + self-matched + open: ignored
    ∷ after self_matched offer cancel "A" 449 answers 0 sends is_canceled "A" 1 leaves (live_order "A" 499 100 50 349 ∷ [])
    ∷ after self_matched offer cancel "A" 450 answers 1 sends nothing leaves (intact "A" ∷ [])
    ∷ after self_matched offer cancel "A" 499 answers 1 sends nothing leaves (intact "A" ∷ [])
    ∷ after self_matched offer cancel "A" 500 answers 1 sends nothing leaves (intact "A" ∷ [])
    -- this test stays before lateness: ignored, and one below it a Cancel Reject; size 0 is pending, and size at executed is not size 0
    ∷ after self_matched_late offer cancel "A" 450 answers 1 sends nothing leaves (intact "A" ∷ [])
    ∷ after self_matched_late offer cancel "A" 449 answers 0 sends is_cancel_reject "A" leaves (live_order "A" 500 100 50 350 ∷ [])
    ∷ after self_matched_late offer cancel "A" 100 answers 0 sends is_cancel_reject "A" leaves (live_order "A" 500 100 50 350 ∷ [])
    ∷ after self_matched_late offer cancel "A" 0 answers 0 sends is_cancel_pending "A" leaves (live_order "A" 500 100 50 350 ∷ [])
    -- the intended size limits total executions: after Cancel 300 another 200, and no more
    ∷ after (self_matched then cancel "A" 300) offer execute "A" 200 answers 0 sends is_executed "A" 200 leaves (dead_order "A" 350 300 50 0 ∷ [])
    ∷ after (self_matched then cancel "A" 300) offer execute "A" 201 answers 6 sends nothing leaves []
    ∷ after (self_matched then cancel "A" 300) offer cancel "A" 300 answers 1 sends nothing leaves []
    -- Replace and Modify still count self-matched shares
    ∷ after self_matched offer replace "A" "B" 300 answers 0 sends is_replaced "A" "B" 150 leaves
    (dead_order "A" 150 100 50 0 ∷ live_order "B" 300 100 50 150 ∷ [])
    ∷ after self_matched offer replace "A" "B" 150 answers 0 sends is_canceled "A" 350 leaves (free "B" ∷ [])
    ∷ after self_matched offer modify "A" "B" 300 answers 0 sends is_modified "A" "B" 150 leaves (live_order "A" 300 100 50 150 ∷ [])
    ∷ after self_matched offer modify "A" "B" 150 answers 1 sends nothing leaves []
    ∷ []

unfoldable pub modify_edges : List Case
modify_edges =
    -- shares at executed + self-matched: ignored; one above: Modified 1
    after entered offer modify "A" "B" 100 answers 1 sends nothing leaves []
    ∷ after entered offer modify "A" "B" 101 answers 0 sends is_modified "A" "B" 1 leaves (live_order "A" 101 100 0 1 ∷ [])
    -- nothing would change: ignored
    ∷ after entered offer modify "A" "B" 500 answers 1 sends nothing leaves []
    -- sides: among S T E
    ∷ after entered offer modify "A" "S" 300 answers 1 sends nothing leaves []
    ∷ after sold offer modify "A" "B" 500 answers 1 sends nothing leaves []
    ∷ after sold offer modify "A" "T" 500 answers 0 sends is_modified "A" "T" 500 leaves []
    ∷ after entered offer modify "A" "X" 300 answers 3 sends nothing leaves []
    -- late, or day not open: ignored
    ∷ after entered_late offer modify "A" "B" 300 answers 1 sends nothing leaves []
    ∷ after closing offer modify "A" "B" 300 answers 1 sends nothing leaves []
    ∷ []

-- ---- what the engine tells

unfoldable pub taken_edges : List Case
taken_edges =
    -- e: shares up to open, when the order dies; 5 for a token that isn't live
    after entered offer execute "A" 400 answers 0 sends is_executed "A" 400 leaves (dead_order "A" 500 500 0 0 ∷ [])
    ∷ after entered offer execute "A" 401 answers 6 sends nothing leaves []
    ∷ after entered offer execute "A" 0 answers 6 sends nothing leaves []
    ∷ after (entered then execute "A" 400) offer execute "A" 1 answers 5 sends nothing leaves []
    -- c: the same, and its reason is told; U is not among the reasons
    ∷ after entered offer book_cancel "A" 400 "Z" answers 0 sends is_canceled_for "A" 400 "Z" leaves (dead_order "A" 100 100 0 0 ∷ [])
    ∷ after entered offer book_cancel "A" 401 "Z" answers 6 sends nothing leaves []
    ∷ after entered offer book_cancel "A" 1 "U" answers 3 sends nothing leaves []
    -- q: the same
    ∷ after entered offer self_match "A" 400 answers 0 sends is_aiq_cancelled "A" 400 leaves (dead_order "A" 500 100 400 0 ∷ [])
    ∷ after entered offer self_match "A" 401 answers 6 sends nothing leaves []
    -- the day is over: c alone is done
    ∷ after closing offer execute "A" 1 answers 7 sends nothing leaves []
    ∷ after closing offer self_match "A" 1 answers 7 sends nothing leaves []
    ∷ after closing offer book_cancel "A" 1 "I" answers 0 sends is_canceled_for "A" 1 "I" leaves (live_order "A" 499 100 0 399 ∷ [])
    ∷ []

unfoldable pub cross_edges : List Case
cross_edges =
    -- l: on cross N, already late, not live, or day not open
    after entered offer late "A" answers 7 sends nothing leaves []
    ∷ after entered_late offer late "A" answers 7 sends nothing leaves []
    ∷ after entered offer late "B" answers 5 sends nothing leaves []
    ∷ after closing offer late "A" answers 7 sends nothing leaves []
    -- f: a pending order is canceled, another is late no more; then it is the wrong moment; the day doesn't matter
    ∷ after (entered_late then cancel "A" 0) offer cross_done "A" answers 0 sends is_canceled "A" 400 leaves (dead_order "A" 100 100 0 0 ∷ [])
    ∷ after entered_late offer cross_done "A" answers 0 sends nothing leaves (live_order "A" 500 100 0 400 ∷ [])
    ∷ after (entered_late then cross_done "A") offer cross_done "A" answers 7 sends nothing leaves []
    ∷ after (entered_late then finish) offer cross_done "A" answers 0 sends nothing leaves []
    -- p: a new reference each time, and displayed; its price
    ∷ after entered offer prioritise "A" 5 answers 0 sends is_priority_update "A" 5 2 leaves (live_order "A" 500 100 0 400 ∷ [])
    ∷ after (entered then prioritise "A" 5) offer prioritise "A" 1_999_999_900 answers 0 sends is_priority_update "A" 1_999_999_900 3 leaves []
    ∷ after sold offer prioritise "A" 5 answers 0 sends is_priority_update "A" 5 2 leaves []
    ∷ after entered offer prioritise "A" 0 answers 3 sends nothing leaves []
    ∷ after entered offer prioritise "A" 1_999_999_901 answers 3 sends nothing leaves []
    ∷ after closing offer prioritise "A" 5 answers 7 sends nothing leaves []
    -- s: S once, then E once
    ∷ after [] offer finish answers 7 sends nothing leaves []
    ∷ after [] offer start answers 0 sends is_system_event "S" leaves []
    ∷ after begun offer start answers 7 sends nothing leaves []
    ∷ after begun offer finish answers 0 sends is_system_event "E" leaves []
    ∷ after closing offer start answers 7 sends nothing leaves []
    ∷ after closing offer finish answers 7 sends nothing leaves []
    ∷ []

-- ---- answers, in the order of checking (10 and 11 stand with the damaged tables)

unfoldable pub answer_edges : List Case
answer_edges =
    -- 2: kind unknown, nothing at all, one byte too many
    after begun offer text "z" ++ stamp answers 2 sends nothing leaves []
    ∷ after begun offer [] answers 2 sends nothing leaves []
    ∷ after begun offer good "A" ++ (0 ∷ []) answers 2 sends nothing leaves (free "A" ∷ [])
    -- 2 before 3: one byte too many, and a bad token
    ∷ after begun offer good "A-" ++ (0 ∷ []) answers 2 sends nothing leaves []
    -- 3: token, side, sweep, code, stamp
    ∷ after begun offer good "A-" answers 3 sends nothing leaves []
    ∷ after begun offer good "A" on_side "X" answers 3 sends nothing leaves (free "A" ∷ [])
    ∷ after begun offer good "A" swept "n" answers 3 sends nothing leaves (free "A" ∷ [])
    ∷ after begun offer text "s" ++ stamp ++ text "X" answers 3 sends nothing leaves []
    ∷ after begun offer stamped_at 86_400_000_000_000 finish answers 3 sends nothing leaves []
    -- 3 before 4: a bad token, and too early
    ∷ after begun offer stamped_at 34_199_999_999_999 (good "A-") answers 3 sends nothing leaves []
    -- 4: a nanosecond too early
    ∷ after begun offer stamped_at 34_199_999_999_999 finish answers 4 sends nothing leaves []
    -- 4 before 1, 5 and 7: token used, token not live, wrong moment
    ∷ after entered offer stamped_at 34_199_999_999_999 (good "A") answers 4 sends nothing leaves []
    ∷ after entered offer stamped_at 34_199_999_999_999 (execute "B" 1) answers 4 sends nothing leaves []
    ∷ after begun offer stamped_at 34_199_999_999_999 start answers 4 sends nothing leaves []
    -- 5 before 7 and 6: token not live, day not open, shares 0
    ∷ after closing offer execute "B" 1 answers 5 sends nothing leaves []
    ∷ after entered offer execute "B" 0 answers 5 sends nothing leaves []
    -- 7 before 6: day not open, shares 0
    ∷ after closing offer execute "A" 0 answers 7 sends nothing leaves []
    ∷ after closing offer self_match "A" 0 answers 7 sends nothing leaves []
    -- 1 before 8: token used, no record free
    ∷ after full offer good "D" answers 1 sends nothing leaves []
    -- 8: no record free, also for a token that would be rejected; bad details need none
    ∷ after full offer good "E" answers 8 sends nothing leaves (free "E" ∷ [])
    ∷ after full offer enter "E" 0 10_000 0 "N" answers 8 sends nothing leaves (free "E" ∷ [])
    ∷ after full offer replace "A" "E" 500 answers 8 sends nothing leaves (live_order "A" 500 100 0 400 ∷ [])
    ∷ after full offer replace "A" "E" 100 answers 0 sends is_canceled "A" 400 leaves (dead_order "A" 100 100 0 0 ∷ [])
    -- 8 before 9: no record free, no byte free
    ∷ crowded 80 (after full offer good "E" answers 8 sends nothing leaves (free "E" ∷ []))
    -- 6 before 9: shares 0, no byte free
    ∷ crowded 80 (after entered offer execute "A" 0 answers 6 sends nothing leaves [])
    -- 9: one byte too few for Executed, and just enough
    ∷ crowded 41 (after entered offer execute "A" 1 answers 9 sends nothing leaves (intact "A" ∷ []))
    ∷ crowded 40 (after entered offer execute "A" 1 answers 0 sends is_executed "A" 1 leaves (live_order "A" 500 101 0 399 ∷ []))
    ∷ []
