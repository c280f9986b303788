-- What `get` gives, and nothing where the marks lie outside the buffer. Assumes nothing.
use Rattle.octets.proofs.Proving.{Bool, List, [], ◌∙◌, ◌≡◌, ap, false, inl, inr, le-leb, leb, length, lt-leb, refl, sym, true, ℕ}
use Rattle.std.specs.Borrow.{Bor}
use Rattle.std.specs.Prelude.{Option, Some, None}
use Rattle.std.specs.Option.{unwrap_or}
use Rattle.std.specs.Slice.{IsGetRangeResult}
use Rattle.octets.specs.Choice.{pick}
use Rattle.feed.specs.Feed.{Held, unread}
use Rattle.feed.proofs.held.unread.Goals as goal

either : (b : Bool) (l : List ℕ) → pick b l l ≡ l
either true l = refl
either false l = refl

lent : (buffer : List ℕ) (h : Held) (r : Option (Bor (List ℕ))) (none : Bor (List ℕ)) → none.now ≡ [] → IsGetRangeResult buffer h.at h.end r
    → (unwrap_or r none).now ≡ unread buffer h
unfolding unread
lent buffer h (Some x) none e p = p.0.2 ∙ sym (simp (le-leb _ _ p.0.1, le-leb _ _ p.0.0))
lent buffer h None none e (inl p, q) = e ∙ sym (simp (lt-leb _ _ p) (either (leb h.end (length buffer)) []))
lent buffer h None none e (inr p, q) = e ∙ sym (simp (lt-leb _ _ p))

pub returns : goal.returns
returns c = ap (λ (b : Bor (List ℕ)). b.now) c.unwrap_or.ensures ∙ lent c.args.buffer.now c.args.held c.get.result _ refl c.get.ensures.lookup
