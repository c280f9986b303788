-- Everything that specs/ defines, open at once, for proofs by computation. Assumes nothing.
use Rattle.tape.specs.Kinds.{kind_by, kind_of, entry_length}
use Rattle.tape.specs.Entries.{well_formed, bad_place_of, entry_answer, stamp_of, token_of, message_in, enter_of, replace_of, cancel_of, modify_of, execution_of, book_cancel_of, self_match_of, priority_of, system_of, stock_state_of, purges, purge_of, blocking_of}
use Rattle.tape.specs.Cutting.{cut_at}

unfoldable pub opened : Unit {0}
unfolding kind_by kind_of entry_length well_formed bad_place_of entry_answer stamp_of token_of message_in enter_of replace_of cancel_of modify_of execution_of book_cancel_of self_match_of priority_of system_of stock_state_of purges purge_of blocking_of cut_at
opened = tt
