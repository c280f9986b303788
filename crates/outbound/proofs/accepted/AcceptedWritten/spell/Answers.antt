-- The fields are put one by one, in the layout's order. Assumes nothing.
use Rattle.outbound.proofs.Codec.{spelled, accepted_bytes, refl, ◌then◌, ends, behind}
use Rattle.outbound.proofs.accepted.AcceptedWritten.spell.Goals as goal

pub returns : goal.returns
unfolding accepted_bytes
returns c = spelled 5 tt refl (refl then c.headed-t.ensures then behind c.put_stated.ensures (c.put_letter.ensures then ends))
