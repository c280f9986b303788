-- The numbers of a record (Table and outbox, Record), each once.
use Rattle.std.specs.Prelude.{ℕ}

abbrev pub record_size : ℕ
record_size = 80

-- liable at most 999,999
abbrev pub most_shares : ℕ
most_shares = 999_999
