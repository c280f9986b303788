-- Each field is what the definition says. Assumes nothing.
use Rattle.notices.specs.Notices.{executed_notice}
use Rattle.notices.proofs.executed_notice.Goals as goal

pub returns : goal.returns
unfolding executed_notice
returns c = cc
