-- The length is asked first, so that byte 2 is there. Assumes nothing.
use Rattle.octets.proofs.Proving.{answered, arith}
use Rattle.table.specs.Status.{form_good}
use Rattle.table.proofs.Soundness.{of_size, head-fits}
use Rattle.table.proofs.status.form_good.Goals as goal

pub byte_at-requires : goal.byte_at-requires
byte_at-requires c =
    let t = c.args.table.now in
    omega (arith, head-fits t (of_size t (answered c.size_good.ensures c.if-size_good.true)))

pub returns-then-size_good : goal.returns-then-size_good
unfolding form_good
returns-then-size_good c = rw (answered c.size_good.ensures c.if-size_good.true, c.byte_at.ensures)

pub returns-else-size_good : goal.returns-else-size_good
unfolding form_good
returns-else-size_good c = rw (answered c.size_good.ensures c.if-size_good.false) c.if-size_good.false
