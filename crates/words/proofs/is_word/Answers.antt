-- The comparison goes byte by byte, as the definition does. Assumes nothing.
use Rattle.octets.proofs.Proving.{◌∙◌}
use Rattle.octets.proofs.Below.{compared}
use Rattle.words.proofs.is_word.Goals as goal

pub returns : goal.returns
returns c = c.eq.ensures ∙ compared c.args.name.now c.args.word.now
