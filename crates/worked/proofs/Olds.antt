-- What the converter makes of old tables, and what it answers: each side computes. Assumes nothing.
use mathlib.Core.Path.{◌≡◌, refl}
use mathlib.Core.Bool.{true}
use Rattle.octets.specs.Choice.{every}
use Rattle.worked.specs.Olds.{olds}
use Rattle.worked.proofs.Below.{below}
use Rattle.worked.proofs.Opened.{opened}

pub olds-hold : every olds ≡ true
unfolding below opened
olds-hold = refl
