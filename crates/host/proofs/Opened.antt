-- Everything that specs/ defines, and what a refusal is, open at once, for proofs by computation. Assumes nothing.
use Rattle.answers.specs.Answer.{is_done}
use Rattle.table.specs.Table.{order_named}
use Rattle.rules.specs.Plan.{refused}
use Rattle.host.specs.Step.{named_place, decide_by, decide, store_if, header_after, committed, set_if, books_after, world_after, no_record_free, no_reference_left, within_limits, comes_to, no_room, carried_out, settle, offer, step}

unfoldable pub opened : Unit {0}
unfolding is_done order_named refused named_place decide_by decide store_if header_after committed set_if books_after world_after no_record_free no_reference_left within_limits comes_to no_room carried_out settle offer step
opened = tt
