-- What was held stays in front from read to read, and a read that brings something leaves less room. Assumes nothing.
use Rattle.octets.proofs.Proving.{◌-◌, length}
use Rattle.feed.specs.Feed.{unread, Begins}
use Rattle.feed.proofs.refill.ready.Given as goal

abbrev pub invariant-loop-pieces : goal.invariant-loop-pieces
invariant-loop-pieces g l = Begins (unread l.initial.buffer l.initial.held) (unread l.buffer l.held)

abbrev pub decreases-loop-pieces : goal.decreases-loop-pieces
decreases-loop-pieces g l = length l.initial.buffer - length (unread l.buffer l.held)
