-- The places told hold of the rules: each side computes. Assumes nothing.
use mathlib.Core.Path.{◌≡◌, refl}
use mathlib.Core.Bool.{true}
use Rattle.octets.specs.Choice.{every}
use Rattle.worked.specs.Places.{clients_places, engines_places, several_places}
use Rattle.worked.proofs.Below.{below}
use Rattle.worked.proofs.Opened.{opened}

pub clients-places-hold : every clients_places ≡ true
unfolding below opened
clients-places-hold = refl

pub engines-places-hold : every engines_places ≡ true
unfolding below opened
engines-places-hold = refl

pub several-places-hold : every several_places ≡ true
unfolding below opened
several-places-hold = refl
