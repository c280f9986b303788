-- The promise of a step settles its outcome: two that it allows agree in answer, marks, table, ring and list. Assumes nothing.
use Rattle.octets.proofs.Proving.{List, ap₂, ℕ}
use denote.Ref.{MutBor}
use Rattle.octets.proofs.Settles.{Settles, one-result, one-pair}
use Rattle.host.specs.Types.{Answer, Marks}
use Rattle.host.specs.Step.{Outcome, Leaves}
use Rattle.host.proofs as host

-- what a caller sees of it
abbrev Seen : Type 0
Seen = ((Answer × Marks) × (List ℕ × List ℕ)) × List ℕ

one-outcome : {E : Type 0} {o : Outcome}
    → Settles {Z = Answer} {E = MutBor (List ℕ) × (MutBor (List ℕ) × (MutBor Marks × (MutBor (List ℕ) × E)))} {X = Seen}
    (λ z e. Leaves o z e.1.1.0.now e.0.now e.1.0.now e.1.1.1.0.now)
    (λ z e. (((z, e.1.1.0.now), (e.0.now, e.1.0.now)), e.1.1.1.0.now))
one-outcome z z' e e' l k =
    ap₂ (λ (x : (Answer × Marks) × (List ℕ × List ℕ)) (y : List ℕ). (x, y))
    (ap₂ (λ (x : Answer × Marks) (y : List ℕ × List ℕ). (x, y))
    (one-pair (l.answered, l.marked) (k.answered, k.marked))
    (one-pair (l.tabled, l.ringed) (k.tabled, k.ringed)))
    (one-result l.listed k.listed)

pub step-unique : (κs : _) (a : _) → Settles {X = Seen} (host.step.step.Reads.Post κs a) (λ z e. (((z, e.1.1.0.now), (e.0.now, e.1.0.now)), e.1.1.1.0.now))
step-unique κs a = one-outcome

pub offer-unique : (κs : _) (a : _) → Settles {X = Seen} (host.step.offer.Reads.Post κs a) (λ z e. (((z, e.1.1.0.now), (e.0.now, e.1.0.now)), e.1.1.1.0.now))
offer-unique κs a = one-outcome
