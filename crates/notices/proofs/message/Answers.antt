-- The notice, with the plan's orders. Assumes nothing.
use Rattle.notices.specs.Notices.{message}
use Rattle.notices.proofs.message.Goals as goal

pub returns : goal.returns
unfolding message
returns c = c.notice_sent.ensures
