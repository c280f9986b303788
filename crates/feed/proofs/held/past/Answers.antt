-- What is left is subtracted from the end, whichever way the tests go. Assumes nothing.
use Rattle.octets.proofs.Proving.{Bool, ◌+◌, ◌-◌, ◌≡◌, ap, arith, false, leb, leb-false, leb-true, refl, true, ℕ}
use Rattle.octets.specs.Choice.{pick}
use Rattle.feed.specs.Feed.{Held, past}
use Rattle.feed.proofs.held.past.Goals as goal

abbrev mark : Held → ℕ → Held
mark h m = record { at = m; end = h.end }

ends : (h : Held) (n k : ℕ) → k ≡ h.end - (h.end - h.at - n) → record { at = k; end = h.end } ≡ past h n
unfolding past
ends h n k e = by (leb h.at h.end) refl (leb n (h.end - h.at)) refl
  where
    by : (b : Bool) → leb h.at h.end ≡ b → (d : Bool) → leb n (h.end - h.at) ≡ d
        → mark h k ≡ pick b (pick d (mark h (h.at + n)) (mark h h.end)) (mark h h.end)
    by true p true q = ap (mark h) (omega (arith, leb-true _ _ p, leb-true _ _ q))
    by true p false q = ap (mark h) (omega (arith, leb-true _ _ p, leb-false _ _ q))
    by false p d q = ap (mark h) (omega (arith, leb-false _ _ p))

pub returns : goal.returns
returns c = ends c.args.held c.args.n _ (omega (arith, c.saturating_sub.ensures, c.saturating_sub-left.ensures))
