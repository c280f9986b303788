-- Each field is what the definition says. Assumes nothing.
use Rattle.notices.specs.Notices.{modified_notice}
use Rattle.notices.proofs.modified_notice.Goals as goal

pub returns : goal.returns
unfolding modified_notice
returns c = cc
