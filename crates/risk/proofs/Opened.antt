-- Everything that specs/ defines, and the refusals, open at once: so every rule is found to be what its code says. Assumes nothing.
use Rattle.rules.specs.Plan.{refused}
use Rattle.risk.specs.Listed.{of_listed}
use Rattle.risk.specs.Purge.{wanted_by, purge_rule}
use Rattle.risk.specs.Blocking.{blocking_rule}

unfoldable pub opened : Unit {0}
unfolding refused of_listed wanted_by purge_rule blocking_rule
opened = tt
