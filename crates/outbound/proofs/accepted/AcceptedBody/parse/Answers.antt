-- Each field is what its leaf reads at its offset. Assumes nothing.
use Rattle.outbound.proofs.Codec.{accepted_of, stated_of}
use Rattle.outbound.proofs.accepted.AcceptedBody.parse.Goals as goal

pub returns : goal.returns
unfolding accepted_of stated_of
returns c = cc
