-- Everything that specs/ defines, open at once, for proofs by computation. Assumes nothing.
use Rattle.orders.specs.Counts.{gone, open_shares, with_liable, cut, executing, self_matching, new_counts}
use Rattle.orders.specs.Flags.{has_flag, set_flag, clear_flag}
use Rattle.orders.specs.Order.{order_of, order_bytes, no_order, is_live, open_of, is_used, ◌is◌, dead_if_spent, with_side, with_flags, with_details, marked, cleared, killed, rejected_order}
use Rattle.orders.specs.Wanted.{is_wanted}
use Rattle.orders.specs.Sound.{liable_good, state_sound, record_sound, counted_sound, state_verdict, verdict_on}
use Rattle.orders.specs.Runs.{opening, traded, letters, ending}

unfoldable pub opened : Unit {0}
unfolding gone open_shares with_liable cut executing self_matching new_counts has_flag set_flag clear_flag order_of order_bytes no_order is_live open_of is_used ◌is◌ dead_if_spent with_side with_flags with_details marked cleared killed rejected_order is_wanted liable_good state_sound record_sound counted_sound state_verdict verdict_on opening traded letters ending
opened = tt
