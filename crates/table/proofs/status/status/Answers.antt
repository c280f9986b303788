-- There are few bits, and a header, in what has a table's length. Assumes nothing.
use Rattle.octets.proofs.Proving.{answered, arith}
use Rattle.octets.proofs.Below.{both}
use Rattle.table.specs.Table.{size_good}
use Rattle.table.specs.Status.{form_good}
use Rattle.table.proofs.Stored.{few_bits}
use Rattle.table.proofs.Soundness.{of_size, head-fits}
use Rattle.table.proofs.status.status.Goals as goal

pub ones-requires : goal.ones-requires
ones-requires c = rw c.bit_bytes.ensures (omega (arith, few_bits c.args.table.now))

pub open_sum-requires : goal.open_sum-requires
unfolding form_good
open_sum-requires c =
    let t = c.args.table.now in
    head-fits t (of_size t (both (size_good t) _ (answered c.form_good.ensures c.if-form_good.true)).0)
