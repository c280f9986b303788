-- The caller's word chooses the list. Assumes nothing.
use Rattle.echo.proofs.echo.Goals as goal

pub returns-then-inbound : goal.returns-then-inbound
returns-then-inbound c = simp c.if-inbound.true c.echo_inbound.ensures

pub returns : goal.returns
returns c = simp c.if-inbound.false c.echo_outbound.ensures
