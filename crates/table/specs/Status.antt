-- The status call (Ask 6): two numbers that stand in the table, so that nobody walks it for them.
use Rattle.std.specs.Prelude.{ℕ, Bool, not, ◌&&◌, List, Result, Ok, Err, eqb}
use Rattle.octets.specs.Choice.{first_of◌, ◌⇒◌⨾◌, count_below}
use Rattle.octets.specs.Bytes.{whole_at}
use Rattle.bitrow.specs.Row.{ones_in}
use Rattle.answers.specs.declared.Refusal.{Refusal}
use Rattle.answers.specs.Answer.{refusal_number}
use Rattle.answers.specs.declared.Refusal.TheVariants.{NotSound}
use Rattle.header.specs.Limits.{table_form}
use Rattle.orders.specs.Order.{is_live}
use Rattle.table.specs.Table.{size_good, used_in, order_at, bit_bytes, open_sum, sum_below, open_at}
pub use Rattle.table.specs.declared.status.Tally.{Tally}

-- length and byte 2 are a table's; no more of it is judged
unfoldable pub form_good : List ℕ → Bool
form_good t = size_good t && eqb (whole_at t 2 1) table_form

-- 10 where they are not; else the ones in the bits, and the number in bytes 60-63
unfoldable pub status : List ℕ → Result Tally Refusal
status t =
    first_of
    not (form_good t) ⇒ Err NotSound
    ⨾ Ok (record { live = ones_in (bit_bytes t); shares = open_sum t })

-- what a walk over the records finds, and so, over a sound table, what the call says: how many are live, and the sum of their open shares
unfoldable pub walked : List ℕ → Tally
walked t = record { live = count_below (used_in t) (λ i. is_live (order_at t i)); shares = sum_below (used_in t) (open_at t) }

-- ---- the call in numbers alone, as C is told it: a refusal tells its number, and zeros

abbrev pub number_told : Result Tally Refusal → ℕ
number_told (Ok tally) = 0
number_told (Err r) = refusal_number r

abbrev pub tally_told : Result Tally Refusal → Tally
tally_told (Ok tally) = tally
tally_told (Err r) = record { live = 0; shares = 0 }
