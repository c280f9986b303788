-- Everything that specs/ defines, open at once, and what a price is made by: so every rule is found to be what its code says. Assumes nothing.
use Rattle.wire.specs.Price.{priced_of}
use Rattle.rules.specs.Plan.{refused, allowed, changing, renumbering, accepting, replacing, rejecting, beginning, blocking, setting}
use Rattle.rules.specs.Enter.{bad_display, bad_price, bad_shares, bad_minimum, fault_of_numbers, bad_stock, enter_fault, accepted_terms, entered_kept, entered_order, enter_outcome, enter_rule}
use Rattle.rules.specs.Replace.{bad_beside_price, bad_details, replacement_order, canceled_whole, replace_open, replace_rule}
use Rattle.rules.specs.Cancel.{new_open, cancel_ignored, late_cancel, decrement, canceled_order, cancel_rule}
use Rattle.rules.specs.Modify.{side_allowed, modify_ignored, modified_order, modify_rule}

unfoldable pub opened : Unit {0}
unfolding priced_of refused allowed changing renumbering accepting replacing rejecting beginning blocking setting bad_display bad_price bad_shares bad_minimum fault_of_numbers bad_stock enter_fault accepted_terms entered_kept entered_order enter_outcome enter_rule bad_beside_price bad_details replacement_order canceled_whole replace_open replace_rule new_open cancel_ignored late_cancel decrement canceled_order cancel_rule side_allowed modify_ignored modified_order modify_rule
opened = tt
