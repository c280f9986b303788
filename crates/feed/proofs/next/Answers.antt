-- Reading keeps what stands behind the last piece, and what is handed out stands at the front of that. Assumes nothing.
use Rattle.feed.proofs.Holds.{next-piece}
use Rattle.feed.proofs.next.Goals as goal

pub returns : goal.returns
returns g c =
    let r = c.ready-held in
    next-piece _ _ _ _ r.result _ (rw c.behind.ensures at r.ensures) c.handed_out.ensures
