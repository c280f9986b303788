-- A bit that is set is 2 to the k of the byte. Assumes nothing.
use Rattle.octets.proofs.Proving.{arith}
use Rattle.octets.proofs.BitLaws.{off_set, one_shifted}
use Rattle.bitrow.proofs.cleared.Goals as goal

pub overflow_sub-result : goal.overflow_sub-result
overflow_sub-result c = omega (arith, one_shifted c.args.k 8 c.requires.0, off_set c.args.b c.args.k c.requires.1)

pub returns : goal.returns
returns c = omega (arith, one_shifted c.args.k 8 c.requires.0, off_set c.args.b c.args.k c.requires.1)
