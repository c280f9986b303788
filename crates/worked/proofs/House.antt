-- The cases under other settings hold of the rules: each side computes. Assumes nothing.
use mathlib.Core.Path.{◌≡◌, refl}
use mathlib.Core.Bool.{true}
use Rattle.worked.specs.Case.{all_hold}
use Rattle.worked.specs.House.{house}
use Rattle.worked.proofs.Below.{below}
use Rattle.worked.proofs.Opened.{opened}

pub house-hold : all_hold house ≡ true
unfolding below opened
house-hold = refl
