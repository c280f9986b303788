-- Every promise settles its result: two results that a public function's contract allows are equal. Assumes nothing.
use Rattle.octets.proofs.Proving.{List, ap₂, ℕ}
use contract.Lifetimes.{Lfts}
use Rattle.octets.proofs.Settles.{Settles, Settled, SettledBoth, ◌and◌, ◌also◌, settled, settled-both, one-result, one-pair}
use Rattle.outbox.specs.declared.marks.Marks.{Marks}
use Rattle.port.specs.Door.{marks}
use Rattle.port.proofs as port

pub fresh-unique : SettledBoth port.pq_fresh.Reads.Post
fresh-unique κs a = settled-both

pub convert-unique : (κs : Lfts 2) (a : _) → Settles {X = ℕ × List ℕ} (port.pq_convert.Reads.Post κs a) (λ z e. (z, e.1.0.now))
convert-unique κs a z z' e e' p p' = one-pair p p'

-- the number, and the two behind their pointers
pub status-unique : (κs : Lfts 3) (a : _) → Settles {X = (ℕ × ℕ) × ℕ} (port.pq_status.Reads.Post κs a) (λ z e. ((z, e.1.0.now), e.1.1.0.now))
status-unique κs a z z' e e' p p' =
    ap₂ (λ (l : ℕ × ℕ) (r : ℕ). (l, r)) (one-pair (p.numbered, p.lives) (p'.numbered, p'.lives)) (one-result p.opens p'.opens)

-- the number and the table, the ring and the marks behind two pointers, the place behind the last, and the list
pub step-unique : (κs : Lfts 7) (a : _) → Settles {X = ((ℕ × List ℕ) × (List ℕ × Marks)) × (ℕ × List ℕ)} (port.pq_step.Reads.Post κs a) (λ z e. (((z, e.0.now), (e.1.0.now, marks e.1.1.0.now e.1.1.1.0.now)), (e.1.1.1.1.1.1.0.now, e.1.1.1.1.0.now)))
step-unique κs a z z' e e' p p' =
    ap₂ (λ (l : (ℕ × List ℕ) × (List ℕ × Marks)) (r : ℕ × List ℕ). (l, r))
    (ap₂ (λ (l : ℕ × List ℕ) (r : List ℕ × Marks). (l, r))
    (one-pair (p.numbered, p.tabled) (p'.numbered, p'.tabled))
    (one-pair (p.ringed, p.marked) (p'.ringed, p'.marked)))
    (one-pair (p.placed, p.listed) (p'.placed, p'.listed))

pub numbers-unique : Settled port.pq_read.Reads.Post and Settled port.pq_entry_length.Reads.Post and Settled port.pq_message_length.Reads.Post
numbers-unique = (λ κs a. settled) also (λ κs a. settled) also (λ κs a. settled)

-- the number, and the marks behind the two pointers
pub release-unique : (κs : Lfts 2) (a : _) → Settles {X = ℕ × Marks} (port.pq_release.Reads.Post κs a) (λ z e. (z, marks e.1.0.now e.1.1.0.now))
release-unique κs a z z' e e' p p' = one-pair p p'

-- the number, the buffer and the place
pub echo-unique : (κs : Lfts 3) (a : _) → Settles {X = (ℕ × ℕ) × List ℕ} (port.pq_echo.Reads.Post κs a) (λ z e. ((z, e.1.1.1.0.now), e.1.1.0.now))
echo-unique κs a z z' e e' p p' = ap₂ (λ (l : ℕ × ℕ) (r : List ℕ). (l, r)) (one-pair p.0 p'.0) (one-result p.1 p'.1)

-- the same, of an entry that is made
pub entry-unique : (κs : Lfts 3) (a : _) → Settles {X = (ℕ × ℕ) × List ℕ} (port.pq_entry.Reads.Post κs a) (λ z e. ((z, e.1.1.1.1.0.now), e.1.1.1.0.now))
entry-unique κs a z z' e e' p p' = ap₂ (λ (l : ℕ × ℕ) (r : List ℕ). (l, r)) (one-pair p.0 p'.0) (one-result p.1 p'.1)
