-- The symbol's place, and the state that stands there. Assumes nothing.
use Rattle.octets.proofs.Proving.{arith, refl}
use Rattle.stocks.specs.Stocks.{state_at}
use Rattle.stocks.proofs.Told.{is-trading, is-halted, is-unlisted}
use Rattle.stocks.proofs.find.Listed.standing.Goals as goal

pub returns-in-Some : goal.returns-in-Some
unfolding state_at
returns-in-Some c = is-halted _ _ _ c.in-Some.ensures.0 c.in-Some.ensures.1 c.if-self-i-eq72.true

pub returns-in-Some-2 : goal.returns-in-Some-2
unfolding state_at
returns-in-Some-2 c = is-trading _ _ _ c.in-Some.ensures.0 c.in-Some.ensures.1 c.if-self-i-eq72.false

pub returns-in-None : goal.returns-in-None
returns-in-None c = is-unlisted c.args.self.now.bytes.now c.args.symbol _ refl (omega (arith, c.in-None.ensures))
