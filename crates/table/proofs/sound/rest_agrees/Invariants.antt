-- The loop's invariant: `ok` says that the bits passed agree.
use Rattle.octets.proofs.Proving.{◌+◌, ◌-◌, ◌≡◌}
use Rattle.octets.specs.Choice.{all_below}
use Rattle.table.proofs.Judging.{agrees}
use Rattle.table.proofs.sound.rest_agrees.Given as goal

abbrev pub invariant-loop-i : goal.invariant-loop-i
invariant-loop-i l = l.ok ≡ all_below (l.i - l.from) (λ j. agrees l.table (l.from + j))
