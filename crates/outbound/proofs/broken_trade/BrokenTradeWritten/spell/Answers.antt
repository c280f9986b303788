-- The fields are put one by one, in the layout's order. Assumes nothing.
use Rattle.outbound.proofs.Codec.{spelled, broken_trade_bytes, refl, ◌then◌, ends}
use Rattle.outbound.proofs.broken_trade.BrokenTradeWritten.spell.Goals as goal

pub returns : goal.returns
unfolding broken_trade_bytes
returns c = spelled 10 tt refl
    (refl then c.headed-t.ensures then c.put_long.ensures then c.put_letter.ensures
    then ends)
