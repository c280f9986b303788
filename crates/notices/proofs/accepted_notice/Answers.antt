-- Each field is what the definition says. Assumes nothing.
use Rattle.notices.specs.Notices.{accepted_notice}
use Rattle.notices.proofs.accepted_notice.Goals as goal

pub returns : goal.returns
unfolding accepted_notice
returns c = cc
