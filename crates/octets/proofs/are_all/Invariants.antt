-- `ok` says that the bytes passed are all that one.
use Rattle.octets.proofs.Proving.{◌≡◌, take}
use Rattle.octets.specs.Bytes.{all_are}
use Rattle.octets.proofs.are_all.Given as goal

abbrev pub invariant-loop-b : goal.invariant-loop-b
invariant-loop-b l = l.ok ≡ all_are l.byte (take l.b-index l.b-items)
