-- The byte without the bit has room for it, since the byte with it is a byte. Assumes nothing.
use Rattle.octets.proofs.Proving.{ap, arith, rules, true}
use Rattle.octets.specs.Bits.{with_bit}
use Rattle.octets.proofs.BitLaws.{with-lt, with-on, one_shifted}
use Rattle.octets.proofs.bits.with_bit.Goals as goal

pub overflow_add-result : goal.overflow_add-result
overflow_add-result c =
    let start = c in
    let a = start.args in
    omega (arith, one_shifted a.k 8 start.requires, c.without_bit-off.ensures, with-on a.b a.k, with-lt 8 a.b a.k true start.requires (search rules))

pub returns-then-on : goal.returns-then-on
returns-then-on c =
    let start = c in
    let a = start.args in
    omega (arith, one_shifted a.k 8 start.requires, c.without_bit-off.ensures, with-on a.b a.k, ap (with_bit a.b a.k) c.if-on.true)
