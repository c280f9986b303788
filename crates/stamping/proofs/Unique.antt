-- The promise settles its result: two answers that it allows are equal, and so is every byte of what was lent. Assumes nothing.
use Rattle.octets.proofs.Proving.{List, ℕ}
use contract.Lifetimes.{Lfts}
use Rattle.octets.proofs.Settles.{Settles, one-pair}
use Rattle.answers.specs.Answer.{Answer}
use Rattle.stamping.proofs as stamping

pub stamped-unique : (κs : Lfts 2) (a : _) → Settles {X = Answer × List ℕ} (stamping.stamped.Reads.Post κs a) (λ z e. (z, e.1.1.1.0.now))
stamped-unique κs a z z' e e' p q = one-pair p q
