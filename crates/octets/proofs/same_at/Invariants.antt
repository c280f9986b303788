-- `ok` says that the k bytes passed are the same.
use Rattle.octets.proofs.Proving.{◌+◌, ◌≡◌, eqb, get_or}
use Rattle.octets.specs.Choice.{all_below}
use Rattle.octets.proofs.same_at.Given as goal

abbrev pub invariant-loop-k : goal.invariant-loop-k
invariant-loop-k l = l.ok ≡ all_below l.k (λ j. eqb (get_or l.s (l.at + j) 0) (get_or l.b j 0))
