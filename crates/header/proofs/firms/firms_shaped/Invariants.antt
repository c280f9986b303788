-- The loop's invariant: each firm before place k is shaped.
use Rattle.octets.proofs.Proving.{◌≡◌, true}
use Rattle.octets.specs.Choice.{all_below}
use Rattle.wire.specs.Text.{shaped}
use Rattle.header.specs.Firms.{firm_at}
use Rattle.header.proofs.firms.firms_shaped.Given as goal

abbrev pub invariant-loop-k : goal.invariant-loop-k
invariant-loop-k l = all_below l.k (λ j. shaped (firm_at l.firms j)) ≡ true
