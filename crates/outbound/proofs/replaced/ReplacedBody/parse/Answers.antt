-- Each field is what its leaf reads at its offset. Assumes nothing.
use Rattle.outbound.proofs.Codec.{replaced_of, stated_of}
use Rattle.outbound.proofs.replaced.ReplacedBody.parse.Goals as goal

pub returns : goal.returns
unfolding replaced_of stated_of
returns c = cc
