-- The fields are put one by one, in the layout's order. Assumes nothing.
use Rattle.outbound.proofs.Codec.{spelled, priority_update_bytes, refl, ◌then◌, ends}
use Rattle.outbound.proofs.priority_update.PriorityUpdateWritten.spell.Goals as goal

pub returns : goal.returns
unfolding priority_update_bytes
returns c = spelled 14 tt refl
    (refl then c.headed-t.ensures then c.put_integer.ensures then c.put_letter.ensures
    then c.put_long.ensures then ends)
