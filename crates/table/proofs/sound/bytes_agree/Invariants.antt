-- The loop's invariant: `ok` says that the bits of the bytes passed agree.
use Rattle.octets.proofs.Proving.{◌*◌, ◌≡◌}
use Rattle.octets.specs.Choice.{all_below}
use Rattle.table.proofs.Judging.{agrees}
use Rattle.table.proofs.sound.bytes_agree.Given as goal

abbrev pub invariant-loop-at : goal.invariant-loop-at
invariant-loop-at l = l.ok ≡ all_below (8 * l.at) (agrees l.table)
