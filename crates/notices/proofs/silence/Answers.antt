-- Zeros, and none of them sent. Assumes nothing.
use mathlib.Core.Path.{refl}
use Rattle.notices.specs.Notices.{sent}
use Rattle.wire.specs.Messages.{in_eighty}
use Rattle.notices.proofs.silence.Goals as goal

pub returns : goal.returns
unfolding sent in_eighty
returns c = refl
