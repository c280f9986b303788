-- Each field is what the definition says. Assumes nothing.
use Rattle.notices.specs.Notices.{replaced_notice}
use Rattle.notices.proofs.replaced_notice.Goals as goal

pub returns : goal.returns
unfolding replaced_notice
returns c = cc
