-- Everything that specs/ defines, and how a check refuses, open at once: so every rule is found to be what its code says. Assumes nothing.
use Rattle.answers.specs.Answer.{is_done}
use Rattle.rules.specs.Plan.{refused, allowed}
use Rattle.market.specs.Guards.{market_answer}
use Rattle.market.specs.Taken.{shares_right, execution_rule, book_cancel_rule, self_match_rule}
use Rattle.market.specs.Priority.{prioritised_order, priority_rule}
use Rattle.market.specs.Cross.{late_rule, cross_done, cross_done_rule}
use Rattle.market.specs.Day.{system_rule}
use Rattle.market.specs.Halt.{halt_rule}

unfoldable pub opened : Unit {0}
unfolding is_done refused allowed market_answer shares_right execution_rule book_cancel_rule self_match_rule prioritised_order priority_rule late_rule cross_done cross_done_rule system_rule halt_rule
opened = tt
