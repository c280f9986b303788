-- Each field is what the definition says. Assumes nothing.
use Rattle.notices.specs.Notices.{canceled_notice}
use Rattle.notices.proofs.canceled_notice.Goals as goal

pub returns : goal.returns
unfolding canceled_notice
returns c = cc
