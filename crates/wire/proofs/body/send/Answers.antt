-- A done writer has put its bytes. Assumes nothing.
use Rattle.octets.proofs.Proving.{◌∙◌, arith, sub-zero}
use Rattle.wire.specs.Messages.{message_layout, number}
use Rattle.wire.proofs.Numbered.{at-most-longest}
use Rattle.wire.proofs.Verdicts.{sent}
use Rattle.wire.proofs.body.send.Goals as goal

pub returns : goal.returns
returns c =
    let a = c.args in
    sent (message_layout (number a.m)) a.spelled a.buffer.now (sub-zero _ ∙ c.size-n.ensures) c.first_bad.ensures c.unless_bad.ensures c.in_ok-unless_bad.was
    (omega (arith, c.if-buffer-n.false)) (omega (arith, at-most-longest (number a.m), c.well_formed)) c.put_bytes.ensures
