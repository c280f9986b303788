-- What is sent is what was spelled, of the message's own layout. Assumes nothing.
use Rattle.octets.proofs.Proving.{◌∙◌, ap, sym}
use Rattle.wire.specs.Layout.{Layout}
use Rattle.wire.specs.Messages.{message_layout, number}
use Rattle.wire.proofs.Runs.{written}
use Rattle.wire.proofs.body.write.Goals as goal

pub returns : goal.returns
returns g c =
    let l = message_layout (number c.message.result) in
    let long = c.spell.ensures.1 ∙ ap (λ (k : Layout). k.size) (sym c.message.ensures) in
    let sent = written l (g.M.Written.bytes c.args.m) c.args.buffer.now (c.spell.ensures.0, long) c.send.ensures in
    rw c.message.ensures at sent
