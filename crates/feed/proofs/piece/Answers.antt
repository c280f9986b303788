-- The first so many of the held bytes, or all of them where there are fewer. Assumes nothing.
use Rattle.octets.proofs.Proving.{◌∙◌, ap, take, ℕ}
use Rattle.feed.specs.Feed.{piece_of}
use Rattle.feed.proofs.Holds.{take-least}
use Rattle.feed.proofs.piece.Goals as goal

pub returns : goal.returns
unfolding piece_of
returns c =
    let l = c.unread-bytes in
    let n = c.args.feed.len in
    ap (λ (k : ℕ). take k l.result.now) c.min-n.ensures ∙ take-least n l.result.now
    ∙ ap (take n) (rw c.held_by.ensures at l.ensures)
