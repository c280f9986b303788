-- The count of whole codes, and 0 where they are not whole. Assumes nothing.
use Rattle.port.specs.Door.{whole_codes, count_given}
use Rattle.port.proofs.settings.count_given.Goals as goal

pub returns-then-n : goal.returns-then-n
unfolding count_given whole_codes
returns-then-n c = simp c.if-n.true

pub returns : goal.returns
unfolding count_given whole_codes
returns c = simp c.if-n.false
