-- The firms' places and their letters compute. Assumes nothing.
use mathlib.Core.Path.{refl}
use Rattle.octets.specs.Choice.{text}
use Rattle.desk.specs.Desk.{desk_settings}
use Rattle.desk.proofs.settings.Goals as goal

pub returns : goal.returns
unfolding desk_settings text
returns c = refl
