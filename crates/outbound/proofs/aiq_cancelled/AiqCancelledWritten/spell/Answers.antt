-- The fields are put one by one, in the layout's order. Assumes nothing.
use Rattle.outbound.proofs.Codec.{spelled, aiq_cancelled_bytes, refl, ◌then◌, ends}
use Rattle.outbound.proofs.aiq_cancelled.AiqCancelledWritten.spell.Goals as goal

pub returns : goal.returns
unfolding aiq_cancelled_bytes
returns c = spelled 8 tt refl
    (refl then c.headed-t.ensures then c.put_integer.ensures then c.put_letter.ensures
    then c.put_integer-2.ensures then c.put_integer-3.ensures then c.put_letter-2.ensures then ends)
