-- The digits of the hour, the minute, the second and the nanoseconds in their places. Assumes nothing.
use Rattle.octets.specs.Bytes.{joined}
use Rattle.listing.specs.Clock.{clock}
use Rattle.listing.proofs.clock.clock.Goals as goal

pub returns : goal.returns
unfolding clock joined
returns c = simp (c.digits.ensures, c.digits-2.ensures, c.digits-3.ensures, c.digits-4.ensures)
