-- The place of a record that lies in the table, and so does not overflow. Assumes nothing.
use Rattle.octets.proofs.Proving.{arith, refl}
use Rattle.table.specs.Table.{record_place}
use Rattle.table.proofs.Stored.{record-fits}
use Rattle.table.proofs.places.record_place.Goals as goal

pub returns : goal.returns
unfolding record_place
returns c = (refl, record-fits c.args.table.now c.args.i c.requires)

pub overflow_mul-result : goal.overflow_mul-result
overflow_mul-result c = omega (arith, record-fits c.args.table.now c.args.i c.requires)

pub overflow_add-result : goal.overflow_add-result
overflow_add-result c = omega (arith, record-fits c.args.table.now c.args.i c.requires)
