-- The rows of the purge button hold of the rules: each side computes. Assumes nothing.
use mathlib.Core.Path.{◌≡◌, refl}
use mathlib.Core.Bool.{true}
use Rattle.octets.specs.Choice.{every}
use Rattle.worked.specs.Case.{all_hold}
use Rattle.worked.specs.Purges.{purges, blocks, byte3_odds}
use Rattle.worked.proofs.Below.{below}
use Rattle.worked.proofs.Opened.{opened}

pub purges-hold : all_hold purges ≡ true
unfolding below opened
purges-hold = refl

pub blocks-hold : all_hold blocks ≡ true
unfolding below opened
blocks-hold = refl

pub byte-3-odds-hold : every byte3_odds ≡ true
unfolding below opened
byte-3-odds-hold = refl
