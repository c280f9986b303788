-- Every promise settles its result: two results that a public function's contract allows are equal. Assumes nothing.
use Rattle.octets.proofs.Proving.{List, ℕ}
use contract.Lifetimes.{Lfts}
use Rattle.octets.proofs.Settles.{Settles, Settled, settled, one-pair}
use Rattle.answers.specs.Answer.{Answer}
use Rattle.convert.proofs as convert

pub old-unique : Settled convert.old.old_sound.Reads.Post
old-unique κs a = settled

pub convert-unique : (κs : Lfts 2) (a : _) → Settles {X = Answer × List ℕ} (convert.convert.Reads.Post κs a) (λ z e. (z, e.1.0.now))
convert-unique κs a z z' e e' p q = one-pair p q
