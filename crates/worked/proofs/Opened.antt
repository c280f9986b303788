-- Everything that specs/ defines, open at once, for proofs by computation. Assumes nothing.
use Rattle.worked.specs.Play.{settings, one_stock, host, ◌lending◌, practice, small, emptied, play, table_after}
use Rattle.worked.specs.Entries.{stamp, token, start, finish, enter, good, replace_as, replace, cancel, modify, execute, self_match, book_cancel, prioritise, late, cross_done, halt, halted_then, purge, disable, enable, blocked_then, stamped_at, ◌on_side◌, ◌in_stock◌, ◌for_firm◌, ◌displayed◌, ◌in_capacity◌, ◌swept◌, ◌at_least◌, begun, entered, self_matched, entered_late, self_matched_late, closing, full, sold}
use Rattle.worked.specs.Messages.{is_system_event, is_accepted, is_accepted_good, is_replaced_as, is_replaced, is_canceled_for, is_canceled, is_modified, is_rejected, is_executed, is_aiq_cancelled, is_cancel_pending, is_cancel_reject, is_priority_update}
use Rattle.worked.specs.Case.{stands, record_named, left_is, unless_done, holding, holds, all_hold}
use Rattle.worked.specs.Worked.{starred, unstarred}
use Rattle.worked.specs.Faults.{faults, alone, both, neighbours, rejects}
use Rattle.worked.specs.House.{codes, eight_firms, two_firms, low_threshold, house}
use Rattle.worked.specs.Replay.{tape, type_sent, bytes_sent, replayed}
use Rattle.worked.specs.Edges.{enter_edges, replace_edges, cancel_edges, size_edges, modify_edges, taken_edges, cross_edges, answer_edges}
use Rattle.worked.specs.Odds.{some_table, damaged, soundness, marks, answer_over, answer_at_end, flags_after, step_odds, fresh, call_odds}
use Rattle.worked.specs.Places.{◌spoiled_at◌, ◌answers◌at◌, clients_places, engines_places, several_places}
use Rattle.worked.specs.Halts.{halts, answer_with, stock_odds}
use Rattle.worked.specs.Purges.{two, purges, blocks, twice, byte3, with_byte3, byte3_odds}
use Rattle.worked.specs.Counts.{fresh_odds, says, after◌live◌shares◌, bits_after, counts, answer_of, damages, statuses}
use Rattle.worked.specs.Olds.{old_after, rebuilt, answer_into, olds}

unfoldable pub opened : Unit {0}
unfolding settings one_stock host ◌lending◌ practice small emptied play table_after stamp token start finish enter good replace_as replace cancel modify execute self_match book_cancel prioritise late cross_done halt halted_then purge disable enable blocked_then stamped_at ◌on_side◌ ◌in_stock◌ ◌for_firm◌ ◌displayed◌ ◌in_capacity◌ ◌swept◌ ◌at_least◌ begun entered self_matched entered_late self_matched_late closing full sold is_system_event is_accepted is_accepted_good is_replaced_as is_replaced is_canceled_for is_canceled is_modified is_rejected is_executed is_aiq_cancelled is_cancel_pending is_cancel_reject is_priority_update stands record_named left_is unless_done holding holds all_hold starred unstarred faults alone both neighbours rejects codes eight_firms two_firms low_threshold house tape type_sent bytes_sent replayed enter_edges replace_edges cancel_edges size_edges modify_edges taken_edges cross_edges answer_edges some_table damaged soundness marks answer_over answer_at_end flags_after step_odds fresh call_odds ◌spoiled_at◌ ◌answers◌at◌ clients_places engines_places several_places halts answer_with stock_odds two purges blocks twice byte3 with_byte3 byte3_odds fresh_odds says after◌live◌shares◌ bits_after counts answer_of damages statuses old_after rebuilt answer_into olds
opened = tt
