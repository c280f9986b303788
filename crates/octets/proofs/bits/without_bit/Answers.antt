-- A bit that is set is 2 to the k of the byte, and where it is not, the byte is without it already. Assumes nothing.
use Rattle.octets.proofs.Proving.{answered, arith, sym}
use Rattle.octets.proofs.BitLaws.{off_set, off-unset, one_shifted}
use Rattle.octets.proofs.bits.without_bit.Goals as goal

pub overflow_sub-result : goal.overflow_sub-result
overflow_sub-result c =
    let a = c.args in
    omega (arith, one_shifted a.k 8 c.requires, off_set a.b a.k (answered c.bit_of.ensures c.if-bit_of.true))

pub returns-then-bit_of : goal.returns-then-bit_of
returns-then-bit_of c =
    let a = c.args in
    omega (arith, one_shifted a.k 8 c.requires, off_set a.b a.k (answered c.bit_of.ensures c.if-bit_of.true))

pub returns : goal.returns
returns c =
    let a = c.args in
    sym (off-unset a.b a.k (answered c.bit_of.ensures c.if-bit_of.false))
