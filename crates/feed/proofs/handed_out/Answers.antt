-- Each return is the choice that its test led to. Assumes nothing.
use Rattle.octets.proofs.Proving.{◌∙◌, eq-eqb, ne_eqb, sym}
use Rattle.feed.specs.Feed.{handed_out}
use Rattle.feed.proofs.handed_out.Goals as goal

pub returns-then-n-eq0 : goal.returns-then-n-eq0
unfolding handed_out
returns-then-n-eq0 c =
    let e = rw c.unread-bytes.ensures at c.whole-n.ensures in
    simp (c.unread-bytes.ensures, eq-eqb _ _ (sym e ∙ c.if-n-eq0.true))

pub returns-else-n-eq0 : goal.returns-else-n-eq0
unfolding handed_out
returns-else-n-eq0 c =
    let e = rw c.unread-bytes.ensures at c.whole-n.ensures in
    simp (c.saturating_sub.ensures, e, ne_eqb _ _ (λ z. c.if-n-eq0.false (e ∙ z)))
