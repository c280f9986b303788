-- One byte is written, with one bit changed; past the row none is. Assumes nothing.
use Rattle.octets.proofs.Proving.{◌/◌, ◌∙◌, ap, arith, set, sym}
use Rattle.bitrow.proofs.Rows.{with-past, with-set}
use Rattle.bitrow.proofs.set_bit.Goals as goal

pub returns-then-at-bits : goal.returns-then-at-bits
returns-then-at-bits c =
    let a = c.args in
    ap (set a.bits.now (a.i / 8)) c.with_bit.ensures ∙ sym (with-set a.bits.now a.i a.on)

pub returns-else-at-bits : goal.returns-else-at-bits
returns-else-at-bits c = let a = c.args in sym (with-past a.bits.now a.i a.on (omega arith))
