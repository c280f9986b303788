-- The record is read before anything of the table is written. Assumes nothing.
use Rattle.octets.proofs.Proving.{arith}
use Rattle.table.specs.Table.{order_at, with_open_sum, counted}
use Rattle.table.proofs.Stored.{record-fits}
use Rattle.table.proofs.store.count.Goals as goal

pub open_sum-requires : goal.open_sum-requires
open_sum-requires c =
    let start = c in
    omega (arith, record-fits start.args.table.now start.args.i start.requires)

pub returns : goal.returns
unfolding counted with_open_sum order_at
returns c = cc
