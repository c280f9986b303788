-- The trailing zeros of a byte end at its first bit that is set. Assumes nothing.
use Rattle.bitrow.proofs.Width.{trailing-first}
use Rattle.bitrow.proofs.lowest.Goals as goal

pub returns : goal.returns
returns c = trailing-first 8 c.args.b
