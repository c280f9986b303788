-- What is heard stays within the limits. Assumes nothing.
use Rattle.words.proofs.Laws.{heard-allowed}
use Rattle.words.proofs.heard_at.Goals as goal

pub returns-in_ok-word_at-in-Some : goal.returns-in_ok-word_at-in-Some
returns-in_ok-word_at-in-Some g c = rw c.hear.ensures (heard-allowed _ _ _ c.requires.0)
