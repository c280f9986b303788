-- The fields are put one by one, in the layout's order. Assumes nothing.
use Rattle.outbound.proofs.Codec.{spelled, modified_bytes, refl, ◌then◌, ends}
use Rattle.outbound.proofs.modified.ModifiedWritten.spell.Goals as goal

pub returns : goal.returns
unfolding modified_bytes
returns c = spelled 15 tt refl
    (refl then c.headed-t.ensures then c.put_letter.ensures then c.put_integer.ensures
    then ends)
