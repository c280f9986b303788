-- Damaged tables, wrong rings, the last reference, flags, fresh and release hold of the rules: each side computes. Assumes nothing.
use mathlib.Core.Path.{◌≡◌, refl}
use mathlib.Core.Bool.{true}
use Rattle.octets.specs.Choice.{every}
use Rattle.worked.specs.Odds.{soundness, step_odds, call_odds}
use Rattle.worked.proofs.Below.{below}
use Rattle.worked.proofs.Opened.{opened}

pub soundness-holds : every soundness ≡ true
unfolding below opened
soundness-holds = refl

pub step-odds-hold : every step_odds ≡ true
unfolding below opened
step-odds-hold = refl

pub call-odds-hold : every call_odds ≡ true
unfolding below opened
call-odds-hold = refl
