-- Each fault gets its letter, and of two the earlier: each side computes. Assumes nothing.
use mathlib.Core.Path.{◌≡◌, refl}
use mathlib.Core.Bool.{true}
use Rattle.worked.specs.Case.{all_hold}
use Rattle.worked.specs.Faults.{rejects}
use Rattle.worked.proofs.Below.{below}
use Rattle.worked.proofs.Opened.{opened}

pub rejects-hold : all_hold rejects ≡ true
unfolding below opened
rejects-hold = refl
