-- Each field is the order's. Assumes nothing.
use Rattle.notices.specs.Notices.{stated_order}
use Rattle.notices.proofs.stated_order.Goals as goal

pub returns : goal.returns
unfolding stated_order
returns c = cc
