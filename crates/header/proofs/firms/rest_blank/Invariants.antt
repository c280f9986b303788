-- The loop's invariant: each place passed is before the count or zero.
use Rattle.octets.proofs.Proving.{◌≡◌, ltb, true}
use Rattle.octets.specs.Choice.{pick, all_below}
use Rattle.octets.specs.Bytes.{all_are}
use Rattle.header.specs.Firms.{firm_at}
use Rattle.header.proofs.firms.rest_blank.Given as goal

abbrev pub invariant-loop-k : goal.invariant-loop-k
invariant-loop-k l = l.ok ≡ all_below l.k (λ j. pick (ltb j l.count) true (all_are 0 (firm_at l.firms j)))
