-- The numbers of the header (Table and outbox, Header), each once.
use Rattle.std.specs.Prelude.{ℕ}

-- where the records begin
abbrev pub header_size : ℕ
header_size = 64

-- the header's value ends here, and the sum of open shares follows: four bytes (Ask 6)
abbrev pub sum_place : ℕ
sum_place = 60

-- byte 2, the form of the table; a fresh one has it too (Ask 6)
abbrev pub table_form : ℕ
table_form = 1

abbrev pub day_before : ℕ
day_before = 0

abbrev pub day_open : ℕ
day_open = 1

abbrev pub day_closed : ℕ
day_closed = 2

abbrev pub fewest_firms : ℕ
fewest_firms = 1

abbrev pub most_firms : ℕ
most_firms = 8

abbrev pub firm_size : ℕ
firm_size = 4

abbrev pub first_reference : ℕ
first_reference = 1

abbrev pub end_of_references : ℕ
end_of_references = 1_000_000_000_000_000_000

abbrev pub lowest_threshold : ℕ
lowest_threshold = 1

abbrev pub highest_threshold : ℕ
highest_threshold = 1_000_000
