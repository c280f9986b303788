-- The first bad byte of the token is the first bad byte of what is left of it.
use Rattle.octets.proofs.Proving.{◌+◌, ◌-◌, ◌≡◌}
use Rattle.octets.specs.Bytes.{part}
use Rattle.wire.specs.Layout.{bad_token_byte}
use Rattle.wire.proofs.places.bad_token.Given as goal

abbrev pub invariant-loop-i : goal.invariant-loop-i
invariant-loop-i l = bad_token_byte l.at (part l.s l.at 14) ≡ bad_token_byte l.i (part l.s l.i (l.at + 14 - l.i))
