-- The firms, and their count. Assumes nothing.
use Rattle.port.specs.Door.{settings_given}
use Rattle.port.proofs.settings.settings_given.Goals as goal

pub returns : goal.returns
unfolding settings_given
returns c = rw (c.count_given.ensures, c.firms_given-places.ensures)
