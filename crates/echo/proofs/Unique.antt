-- Every promise settles its result: two results that a public function's contract allows are equal. Assumes nothing.
use Rattle.octets.proofs.Proving.{List, ℕ}
use contract.Lifetimes.{Lfts}
use Rattle.octets.proofs.Settles.{Settles, one-pair}
use Rattle.answers.specs.Answer.{Answer}
use Rattle.echo.proofs as echo

pub echo-unique : (κs : Lfts 2) (a : _) → Settles {X = Answer × List ℕ} (echo.echo.Reads.Post κs a) (λ z e. (z, e.1.1.0.now))
echo-unique κs a z z' e e' p p' = one-pair p p'
