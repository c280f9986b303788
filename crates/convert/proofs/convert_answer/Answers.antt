-- A sound old table has no more records than a table may have. Assumes nothing.
use Rattle.octets.proofs.Proving.{arith, rules}
use Rattle.convert.proofs.Former.{of-old-sound}
use Rattle.convert.proofs.convert_answer.Goals as goal

pub table_size-requires : goal.table_size-requires
table_size-requires c = omega (arith, c.old_records.ensures, (of-old-sound c.args.old.now (search rules)).size.most)
