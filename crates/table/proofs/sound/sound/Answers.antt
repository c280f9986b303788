-- Length, header and records, one after the other: nothing is asked of what is not there. Assumes nothing.
use Rattle.octets.proofs.Proving.{and-true, answered}
use Rattle.table.specs.Table.{sound}
use Rattle.table.proofs.sound.sound.Goals as goal

pub returns-then-header_sound : goal.returns-then-header_sound
unfolding sound
returns-then-header_sound c =
    let header = c in
    let head = header in
    rw (answered head.size_good.ensures head.if-size_good.true)
    (rw (rw (head.head_bytes.ensures, header.records_in.ensures) at (answered header.header_sound.ensures c.if-header_sound.true), c.records_sound.ensures, and-true))

pub returns-else-header_sound : goal.returns-else-header_sound
unfolding sound
returns-else-header_sound c =
    let header = c in
    let head = header in
    rw (answered head.size_good.ensures head.if-size_good.true)
    (rw (rw (head.head_bytes.ensures, header.records_in.ensures) at (answered header.header_sound.ensures c.if-header_sound.false)) cc)

pub returns-else-size_good : goal.returns-else-size_good
unfolding sound
returns-else-size_good c = rw (answered c.size_good.ensures c.if-size_good.false) cc
