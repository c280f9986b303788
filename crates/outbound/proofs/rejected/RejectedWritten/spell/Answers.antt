-- The fields are put one by one, in the layout's order. Assumes nothing.
use Rattle.outbound.proofs.Codec.{spelled, rejected_bytes, refl, ◌then◌, ends}
use Rattle.outbound.proofs.rejected.RejectedWritten.spell.Goals as goal

pub returns : goal.returns
unfolding rejected_bytes
returns c = spelled 11 tt refl
    (refl then c.headed-t.ensures then c.put_letter.ensures then ends)
