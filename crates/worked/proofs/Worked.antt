-- The worked numbers hold of the rules: each side computes. Assumes nothing.
use mathlib.Core.Path.{◌≡◌, refl}
use mathlib.Core.Bool.{true}
use Rattle.worked.specs.Case.{all_hold}
use Rattle.worked.specs.Worked.{starred, unstarred}
use Rattle.worked.proofs.Below.{below}
use Rattle.worked.proofs.Opened.{opened}

pub starred-hold : all_hold starred ≡ true
unfolding below opened
starred-hold = refl

pub unstarred-hold : all_hold unstarred ≡ true
unfolding below opened
unstarred-hold = refl
