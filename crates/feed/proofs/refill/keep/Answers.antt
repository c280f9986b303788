-- Where the marks lie in the buffer, what goes to the front is what is held; otherwise nothing is. Assumes nothing.
use Rattle.octets.proofs.Proving.{List, ◌-◌, ◌≡◌, ◌≤◌, arith, drop, le-leb, length, length-drop, lt-leb, subst, take, zero-add, ℕ}
use Rattle.std.specs.List.{copy_within}
use Rattle.std.proofs.lemmas.List.Edits.{take-paste}
use Rattle.feed.specs.Feed.{unread}
use Rattle.feed.proofs.refill.keep.Goals.{then-buffer-held-via-then-buffer-held, then-buffer-held-via-else-buffer-held+then-held}
use Rattle.feed.proofs.refill.keep.Goals as goal

to_front : (s : List ℕ) (at end : ℕ) → at ≤ end → end ≤ length s → take (end - at) (copy_within s at end 0) ≡ take (end - at) (drop at s)
to_front s at end h k =
    let n = end - at in
    let room : n ≤ length (drop at s) = omega (arith, length-drop at s) in
    subst (λ (m : ℕ). take m (copy_within s at end 0) ≡ take n (drop at s)) (zero-add n) (take-paste s 0 (drop at s) n (omega arith) room)

pub returns-then-buffer-held : goal.returns-then-buffer-held
unfolding unread
returns-then-buffer-held c =
    elim c.then-buffer-held.branch [
      | then-buffer-held-via-then-buffer-held w ↦ (simp (lt-leb _ _ w.if-buffer-held.true), omega arith)
      | then-buffer-held-via-else-buffer-held+then-held w ↦ (simp (le-leb _ _ w.if-buffer-held.false, lt-leb _ _ w.if-held.true), omega arith)
    ]

pub returns : goal.returns
unfolding unread
returns c =
    let h = c.args.held in
    let e = c.copy_within.ensures in (
      rw e.after (simp (le-leb _ _ c.if-buffer-held.false, le-leb _ _ c.if-held.false) (to_front c.args.buffer.now h.at h.end c.if-held.false (c.if-buffer-held.false))),
      omega (arith, e.len),
    )
