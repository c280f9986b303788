-- The letters and digits of ASCII are the definition's. Assumes nothing.
use Rattle.octets.proofs.Proving.{arith}
use Rattle.std.proofs.lemmas.Bool.Decides.{nat_tests}
use Rattle.wire.specs.Text.{token_byte, capital, small, digit}
use Rattle.wire.proofs.text.is_token_byte.Goals as goal

pub returns : goal.returns
unfolding token_byte capital small digit
returns c = grind (arith, nat_tests)
