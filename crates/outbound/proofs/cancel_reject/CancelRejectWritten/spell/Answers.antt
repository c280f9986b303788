-- The fields are put one by one, in the layout's order. Assumes nothing.
use Rattle.outbound.proofs.Codec.{spelled, cancel_reject_bytes, refl, ◌then◌, ends}
use Rattle.outbound.proofs.cancel_reject.CancelRejectWritten.spell.Goals as goal

pub returns : goal.returns
unfolding cancel_reject_bytes
returns c = spelled 13 tt refl
    (refl then c.headed.ensures then ends)
