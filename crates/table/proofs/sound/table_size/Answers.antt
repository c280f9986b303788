-- The definition, which overflows for no table's number of records. Assumes nothing.
use Rattle.octets.proofs.Proving.{refl}
use Rattle.bitrow.specs.Row.{bytes_for}
use Rattle.table.specs.Table.{table_size}
use Rattle.table.proofs.sound.table_size.Goals as goal

pub returns : goal.returns
unfolding table_size bytes_for
returns c = refl
