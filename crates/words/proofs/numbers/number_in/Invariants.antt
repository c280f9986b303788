-- What is still to be read gives the number. Assumes nothing.
use Rattle.octets.proofs.Proving.{◌≡◌, ◌≤◌, drop}
use Rattle.std.specs.Prelude.{Some}
use Rattle.outbox.specs.Limits.{longest_ring}
use Rattle.words.specs.Words.{number_from}
use Rattle.words.proofs.numbers.number_in.Given as goal

abbrev pub invariant-loop-digit : goal.invariant-loop-digit
invariant-loop-digit l = (l.n ≤ longest_ring) × (number_from (Some 0) l.text ≡ number_from (Some l.n) (drop l.digit-index l.text))
