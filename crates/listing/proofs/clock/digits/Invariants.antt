-- The digits that are still to come stand in front of those that are there. Assumes nothing.
use Rattle.octets.proofs.Proving.{◌++◌, ◌≡◌, drop, length}
use Rattle.io.specs.Digits.{last_digits}
use Rattle.listing.proofs.clock.digits.Given as goal

abbrev pub invariant-loop-k : goal.invariant-loop-k
invariant-loop-k g l = (length l.digits ≡ g.row.N) × (last_digits 10 l.k l.rest ++ drop l.k l.digits ≡ last_digits 10 g.row.N l.fn.n)
