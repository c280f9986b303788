-- The old form of a table (Ask 6): a header and records as in a table of today, byte 2 zero, bytes 60-63 zero, and no bits. What a step takes for a
-- table is said in the crate of tables; nothing there knows of this form.
use Rattle.std.specs.Prelude.{ℕ, ◌+◌, ◌-◌, ◌*◌, ◌/◌, min, Bool, ◌&&◌, List, [], ◌∷◌, length, take, leb, eqb}
use Rattle.octets.specs.Choice.{every, all_below, first_below}
use Rattle.octets.specs.Bytes.{part, put, all_are, whole_at}
use Rattle.header.specs.Limits.{header_size, sum_place, table_form}
use Rattle.header.specs.Header.{header_of}
use Rattle.header.specs.declared.Header.{Header}
use Rattle.header.specs.Sound.{header_sound}
use Rattle.orders.specs.Limits.{record_size}
use Rattle.orders.specs.Sound.{record_sound}
use Rattle.table.specs.Limits.{fewest_records, most_records}
use Rattle.table.specs.Table.{record_bytes, has_token}

-- byte 2
abbrev pub old_form : ℕ
old_form = 0

-- as many records as there is room for
unfoldable pub old_records : List ℕ → ℕ
old_records old = (length old - header_size) / record_size

-- 64 + 80n bytes, n from 1 to 800
unfoldable pub old_size_good : List ℕ → Bool
old_size_good old = leb fewest_records (old_records old) && leb (old_records old) most_records && eqb (length old) (header_size + record_size * old_records old)

-- the header's value: byte 2 is in none
unfoldable pub old_header : List ℕ → Header
old_header old = header_of (take sum_place old)

-- the used records, of those that there are: a sound table has no more
unfoldable pub old_used : List ℕ → ℕ
old_used old = min (old_header old).used (old_records old)

-- bytes 0-59 as a table of today has them
unfoldable pub renewed : List ℕ → List ℕ
renewed old = put (take sum_place old) 2 (table_form ∷ [])

-- sound in the old form: the records stand where they stand today
unfoldable pub old_sound : List ℕ → Bool
old_sound old =
    every
    (old_size_good old
    ∷ eqb (whole_at old 2 1) old_form
    ∷ header_sound (renewed old) (old_records old)
    ∷ all_are 0 (part old sum_place 4)
    ∷ all_below (old_used old) (λ i. record_sound (record_bytes old i))
    ∷ [])

-- what `find` answered: the first used record with the token; where no record has it, the number behind the used ones
unfoldable pub old_place_of : List ℕ → List ℕ → ℕ
old_place_of old token = first_below (old_used old) (has_token old token)
