-- The loop's invariant: `ok` says that the k bytes passed stand outside the token or are legal in it.
use Rattle.octets.proofs.Proving.{◌≡◌}
use Rattle.octets.specs.Choice.{all_below}
use Rattle.orders.proofs.Judged.{token_place}
use Rattle.orders.proofs.sound.token_legal.Given as goal

abbrev pub invariant-loop-k : goal.invariant-loop-k
invariant-loop-k l = l.ok ≡ all_below l.k (token_place l.r)
