-- `v` is the number that the bytes passed spell, and so below 256 to as many as they are.
use Rattle.octets.proofs.Proving.{◌≡◌, ◌<◌, ◌^◌, take}
use Rattle.octets.specs.Bytes.{number_of}
use Rattle.octets.proofs.number_at.Given as goal

abbrev pub invariant-loop-b : goal.invariant-loop-b
invariant-loop-b l = (l.v ≡ number_of (take l.b-index l.b-items)) × (l.v < 256 ^ l.b-index)
