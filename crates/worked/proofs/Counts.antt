-- What a table keeps of its live orders, and what is said where it is wrong, hold of the rules: each side computes. Assumes nothing.
use mathlib.Core.Path.{◌≡◌, refl}
use mathlib.Core.Bool.{true}
use Rattle.octets.specs.Choice.{every}
use Rattle.worked.specs.Counts.{fresh_odds, counts, damages, statuses}
use Rattle.worked.proofs.Below.{below}
use Rattle.worked.proofs.Opened.{opened}

pub fresh-odds-hold : every fresh_odds ≡ true
unfolding below opened
fresh-odds-hold = refl

pub counts-hold : every counts ≡ true
unfolding below opened
counts-hold = refl

pub damages-hold : every damages ≡ true
unfolding below opened
damages-hold = refl

pub statuses-hold : every statuses ≡ true
unfolding below opened
statuses-hold = refl
