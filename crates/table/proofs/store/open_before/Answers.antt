-- The bit is asked first. Assumes nothing.
use Rattle.octets.proofs.Proving.{answered}
use Rattle.table.specs.Table.{order_at, is_marked, open_before}
use Rattle.table.proofs.store.open_before.Goals as goal

pub returns-then-bit_at : goal.returns-then-bit_at
unfolding open_before is_marked order_at
returns-then-bit_at c =
    let asked = c in
    rw (c.open_in.ensures, c.record_bytes.ensures, answered (rw asked.bit_bytes.ensures at asked.bit_at.ensures) c.if-bit_at.true)

pub returns : goal.returns
unfolding open_before is_marked
returns c = rw (answered (rw c.bit_bytes.ensures at c.bit_at.ensures) c.if-bit_at.false)
