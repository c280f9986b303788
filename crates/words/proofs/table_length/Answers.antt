-- The table's own length for so many records, which grows with them. Assumes nothing.
use Rattle.octets.proofs.Proving.{◌≡◌, arith, refl}
use Rattle.bitrow.specs.Row.{bytes_for}
use Rattle.table.specs.Limits.{most_records}
use Rattle.table.specs.Table.{table_size}
use Rattle.words.specs.Words.{longest_table}
use Rattle.words.proofs.table_length.Goals as goal

pub longest : longest_table ≡ table_size most_records
unfolding table_size bytes_for
longest = refl

pub returns : goal.returns
unfolding table_size bytes_for
returns c =
    let n = c.table_size.ensures in
    (n, omega (arith, n, c.requires.records-high))
