-- A read leaves what is held, and one that brings something leaves less room. Assumes nothing.
use Rattle.octets.proofs.Proving.{arith, length}
use Rattle.feed.proofs.Holds.{begins-on, less-room, unread-within}
use Rattle.feed.proofs.refill.ready.Goals as goal

pub loop-pieces-smaller : goal.loop-pieces-smaller
loop-pieces-smaller g c =
    let r = c.refill-more in
    less-room
    _ _ _ _ r.result.1 (length c.args.buffer.now) r.ensures (omega (arith, unread-within r.new.buffer r.result.0, r.auto.buffer, c.loop-pieces.auto.buffer))
    c.if-more-eq0.false

pub loop-pieces-preserved : goal.loop-pieces-preserved
loop-pieces-preserved g c = begins-on _ _ _ c.loop-pieces.invariant c.refill-more.ensures.kept

pub returns-then-more-eq0 : goal.returns-then-more-eq0
returns-then-more-eq0 g c = begins-on _ _ _ c.loop-pieces.invariant c.refill-more.ensures.kept
