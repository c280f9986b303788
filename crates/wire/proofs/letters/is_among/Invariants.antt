-- `found` says that the byte is one of the letters passed.
use Rattle.octets.proofs.Proving.{◌≡◌, take}
use Rattle.wire.proofs.Gathered.{one_of}
use Rattle.wire.proofs.letters.is_among.Given as goal

abbrev pub invariant-loop-letter : goal.invariant-loop-letter
invariant-loop-letter g l = l.found ≡ one_of (take l.letter-index l.letter-items) l.b
