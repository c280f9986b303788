-- The rows of halts and lists hold of the rules: each side computes. Assumes nothing.
use mathlib.Core.Path.{◌≡◌, refl}
use mathlib.Core.Bool.{true}
use Rattle.octets.specs.Choice.{every}
use Rattle.worked.specs.Case.{all_hold}
use Rattle.worked.specs.Halts.{halts, stock_odds}
use Rattle.worked.proofs.Below.{below}
use Rattle.worked.proofs.Opened.{opened}

pub halts-hold : all_hold halts ≡ true
unfolding below opened
halts-hold = refl

pub stock-odds-hold : every stock_odds ≡ true
unfolding below opened
stock-odds-hold = refl
