-- The first of all used records. Assumes nothing.
use Rattle.octets.proofs.Proving.{arith}
use Rattle.table.specs.Table.{used_in, place_of}
use Rattle.table.proofs.find.find.Goals as goal

pub first-requires : goal.first-requires
unfolding used_in
first-requires c = omega (arith, c.used.ensures)

pub returns : goal.returns
unfolding place_of
returns c = cc
