-- What is still to be put, the first `k` bytes of `rest`, makes of `s` what is to be made of it.
use Rattle.octets.proofs.Proving.{◌≡◌, length}
use Rattle.octets.specs.Bytes.{put, digits}
use Rattle.octets.proofs.put_number.Given as goal

abbrev pub invariant-loop-k : goal.invariant-loop-k
invariant-loop-k l = (length l.s ≡ length l.initial.s) × (put l.s l.at (digits l.k l.rest) ≡ put l.initial.s l.at (digits l.width l.v))
