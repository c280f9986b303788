-- What each promise settles. No contract can say what an input brings: of `next` the bytes that are held afterwards settle the rest, and of `rest`
-- there is a least number alone. Assumes nothing.
use Rattle.octets.proofs.Proving.{List, ◌∙◌, ◌≡◌, ap₂, sym, ℕ}
use contract.Lifetimes.{Lfts}
use denote.RattleType.{RattleType}
use denote.Param.Laws.{Laws}
use Rattle.octets.proofs.Settles.{Settles, Settled, settled, one-result}
use Rattle.feed.specs.Feed.{Held, unread, held_by, handed_out}
use Rattle.feed.proofs as feed

pub begin-unique : Settled feed.begin.Reads.Post
begin-unique κs a = settled

pub again-unique : Settled feed.again.Reads.Post
again-unique κs a z z' e e' p p' = one-result p.0 p'.0

pub over-unique : Settled feed.over.Reads.Post
over-unique κs a z z' e e' p p' = one-result p.0 p'.0

pub piece-unique : (κs : Lfts 1) (a : _) → Settles {X = List ℕ} (feed.piece.Reads.Post κs a) (λ z e. z.now)
piece-unique κs a z z' e e' p p' = one-result p p'

pub next-unique : (R : RattleType) (l : Laws R) (g : _) (d : _) (κs : Lfts 3) (a : _) (z z' : _) (e e' : _) → feed.next.Reads.Post R l g d κs a z e
    → feed.next.Reads.Post R l g d κs a z' e' → e.1.1.0.now ≡ e'.1.1.0.now → held_by z ≡ held_by z' → z ≡ z'
next-unique R l g d κs a z z' e e' p p' b h =
    p.cut ∙ ap₂ (λ (s : List ℕ) (m : Held). handed_out a.1.0 (unread s m) m a.1.1.1.0.left) b h ∙ sym p'.cut
