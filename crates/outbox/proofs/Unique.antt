-- Every promise settles its result: two results that a public function's contract allows are equal. Assumes nothing.
use Rattle.octets.proofs.Proving.{List, ap₂, ℕ}
use contract.Lifetimes.{Lfts}
use Rattle.octets.proofs.Settles.{Settles, Settled, settled, one-result, one-pair}
use Rattle.answers.specs.Answer.{Answer}
use Rattle.outbox.specs.Outbox.{Marks}
use Rattle.outbox.proofs as outbox

pub marks-unique : Settled outbox.marks.ring_good.Reads.Post
marks-unique κs a = settled

-- the answer, the marks and every byte of the ring
pub put-unique : (κs : Lfts 3) (a : _) → Settles {X = Answer × (Marks × List ℕ)} (outbox.put.put.Reads.Post κs a) (λ z e. (z, (e.1.0.now, e.0.now)))
put-unique κs a z z' e e' p p' =
    ap₂ (λ (r : Answer) (rest : Marks × List ℕ). (r, rest)) (one-result p.0 p'.0) (one-pair p.1 p'.1)

pub append-unique : (κs : Lfts 3) (a : _) → Settles {X = Marks × List ℕ} (outbox.put.append.Reads.Post κs a) (λ z e. (e.1.0.now, e.0.now))
append-unique κs a z z' e e' p p' = one-pair p p'

pub release-unique : (κs : Lfts 1) (a : _) → Settles {X = Answer × Marks} (outbox.release.release.Reads.Post κs a) (λ z e. (z, e.1.0.now))
release-unique κs a z z' e e' p p' = one-pair p p'

-- Of a part a program sees its bytes and the address at which they stand; the logic's own name for the loan it can't see.
pub read-unique : (κs : Lfts 1) (a : _) → Settles {X = List ℕ × (ℕ × ℕ)} (outbox.read.read.Reads.Post κs a) (λ z e. (z.now, z.ref_ptr))
read-unique κs a z z' e e' p p' = one-pair p p'
