-- Each field is what the definition says. Assumes nothing.
use Rattle.notices.specs.Notices.{rejected_notice}
use Rattle.notices.proofs.rejected_notice.Goals as goal

pub returns : goal.returns
unfolding rejected_notice
returns c = cc
