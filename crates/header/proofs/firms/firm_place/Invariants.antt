-- The loop's invariant: the first place of the firm is still ahead.
use Rattle.octets.specs.Bytes.{same}
use Rattle.octets.proofs.First.{Ahead}
use Rattle.header.specs.Firms.{firm_at}
use Rattle.header.proofs.firms.firm_place.Given as goal

abbrev pub invariant-loop-k : goal.invariant-loop-k
invariant-loop-k l = Ahead l.count (λ j. same (firm_at l.fn.h.firms j) l.fn.firm) l.k
