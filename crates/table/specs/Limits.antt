-- How many records a table has (Table and outbox).
use Rattle.std.specs.Prelude.{ℕ}

abbrev pub fewest_records : ℕ
fewest_records = 1

abbrev pub most_records : ℕ
most_records = 800
