-- The fields are put one by one, in the layout's order. Assumes nothing.
use Rattle.outbound.proofs.Codec.{spelled, executed_bytes, refl, ◌then◌, ends}
use Rattle.outbound.proofs.executed.ExecutedWritten.spell.Goals as goal

pub returns : goal.returns
unfolding executed_bytes
returns c = spelled 9 tt refl
    (refl then c.headed-t.ensures then c.put_integer.ensures then c.put_integer-2.ensures
    then c.put_letter.ensures then c.put_long.ensures then ends)
