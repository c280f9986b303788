-- The fields are put one by one, in the layout's order. Assumes nothing.
use Rattle.outbound.proofs.Codec.{spelled, replaced_bytes, refl, ◌then◌, ends, behind}
use Rattle.outbound.proofs.replaced.ReplacedWritten.spell.Goals as goal

pub returns : goal.returns
unfolding replaced_bytes
returns c = spelled 6 tt refl (refl then c.headed-t.ensures then behind c.put_stated.ensures (c.put_text.ensures then c.put_letter.ensures then ends))
