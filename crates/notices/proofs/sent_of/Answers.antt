-- What is spelled is sent whole, at its length. Assumes nothing.
use Rattle.notices.proofs.Whole.{whole}
use Rattle.notices.proofs.sent_of.Goals as goal

pub returns : goal.returns
returns g c = whole _ c.spell.ensures c.size.ensures.0
