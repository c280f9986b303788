-- The code is there or it is not. Assumes nothing.
use Rattle.octets.proofs.Proving.{le-leb, lt-leb}
use Rattle.port.specs.Door.{firm_given}
use Rattle.port.proofs.settings.firm_given.Goals as goal

pub returns-then-at-firms : goal.returns-then-at-firms
unfolding firm_given
returns-then-at-firms c = rw (c.bytes_at-code.ensures, le-leb _ _ c.if-at-firms.true)

pub returns : goal.returns
unfolding firm_given
returns c = rw (lt-leb _ _ c.if-at-firms.false)
