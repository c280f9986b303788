-- The fields are put one by one, in the layout's order. Assumes nothing.
use Rattle.outbound.proofs.Codec.{spelled, cancel_pending_bytes, refl, ◌then◌, ends}
use Rattle.outbound.proofs.cancel_pending.CancelPendingWritten.spell.Goals as goal

pub returns : goal.returns
unfolding cancel_pending_bytes
returns c = spelled 12 tt refl
    (refl then c.headed.ensures then ends)
