-- The answer that the check does not find, of a number that is no message's: the ensured pair is a lemma's at once.
use Rattle.wire.proofs.Numbered.{unsent}
use Rattle.wire.proofs.by_number.send.Goals as goal

pub returns-in-None : goal.returns-in-None
returns-in-None c = unsent c.args.k c.args.spelled c.args.buffer.now c.in-None.ensures
