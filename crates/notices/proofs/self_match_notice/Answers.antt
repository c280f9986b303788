-- Each field is what the definition says. Assumes nothing.
use Rattle.notices.specs.Notices.{self_match_notice}
use Rattle.notices.proofs.self_match_notice.Goals as goal

pub returns : goal.returns
unfolding self_match_notice
returns c = cc
