-- The fields are put one by one, in the layout's order. Assumes nothing.
use Rattle.outbound.proofs.Codec.{spelled, system_event_bytes, ◌then◌, ends}
use Rattle.outbound.proofs.system_event.SystemEventWritten.spell.Goals as goal

pub returns : goal.returns
unfolding system_event_bytes
returns c = spelled 4 tt c.started-t.ensures
    (c.put_long.ensures then c.put_letter.ensures then ends)
