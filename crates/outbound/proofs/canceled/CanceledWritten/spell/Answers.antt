-- The fields are put one by one, in the layout's order. Assumes nothing.
use Rattle.outbound.proofs.Codec.{spelled, canceled_bytes, refl, ◌then◌, ends}
use Rattle.outbound.proofs.canceled.CanceledWritten.spell.Goals as goal

pub returns : goal.returns
unfolding canceled_bytes
returns c = spelled 7 tt refl
    (refl then c.headed-t.ensures then c.put_integer.ensures then c.put_letter.ensures
    then ends)
