-- Each field is what the definition says. Assumes nothing.
use Rattle.notices.specs.Notices.{priority_notice}
use Rattle.notices.proofs.priority_notice.Goals as goal

pub returns : goal.returns
unfolding priority_notice
returns c = cc
