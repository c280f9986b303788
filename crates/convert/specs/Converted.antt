-- What is promised of a table that was converted (Ask 6): it is sound, it means the same, and every byte of it is said.
use Rattle.std.specs.Prelude.{ℕ, ◌*◌, ◌<◌, ◌≡◌, true, ◌&&◌, List, ◌≢◌, length, take, drop, ltb}
use Rattle.octets.specs.Bytes.{part}
use Rattle.answers.specs.Answer.{Done}
use Rattle.wire.specs.Legal.{Bytes}
use Rattle.header.specs.Limits.{header_size, sum_place}
use Rattle.orders.specs.Limits.{record_size}
use Rattle.orders.specs.Order.{is_live}
use Rattle.table.specs.Table.{table_size, header, used_in, order_at, is_marked, open_sum, sum_below, open_at, sound, place_of}
use Rattle.convert.specs.Old.{old_records, old_header, old_used, renewed, old_place_of}
use Rattle.convert.specs.Convert.{convert_answer, converted}

-- it means the same: the same header, as many used records, the same order at each place, the same answers to `find`
pub record MeansTheSame (old new : List ℕ) : Type 0 where
  pub header : header new ≡ old_header old
  pub used : used_in new ≡ old_used old
  pub orders : (i : ℕ) → i < old_records old → order_at new i ≡ order_at old i
  pub places : (token : List ℕ) → place_of new token ≡ old_place_of old token

-- every byte, from the first to the last
pub record EveryByte (old new : List ℕ) : Type 0 where
  pub long : length new ≡ table_size (old_records old)
  -- bytes 0-59: the old ones but for byte 2
  pub head : take sum_place new ≡ renewed old
  -- bytes 60-63: how much is open of the used records
  pub sum : open_sum new ≡ sum_below (old_used old) (open_at old)
  -- the records, unused ones too
  pub records : part new header_size (record_size * old_records old) ≡ drop header_size old
  -- the bits, spare ones too
  pub bits : (i : ℕ) → is_marked new i ≡ (ltb i (old_used old) && is_live (order_at old i))

-- what a new table is to the old one
pub record Converts (old new : List ℕ) : Type 0 where
  pub sound : sound new ≡ true
  pub means : MeansTheSame old new
  pub bytes : EveryByte old new

-- of an old table and whatever the second buffer holds: done, all of this; with any other answer it holds what it held
pub record Promised (old t : List ℕ) : Type 0 where
  pub done : convert_answer old (length t) ≡ Done → Converts old (converted old t)
  pub refused : convert_answer old (length t) ≢ Done → converted old t ≡ t

-- and what is said of every byte leaves no other table
abbrev pub LeavesNoOther : List ℕ → Type 0
LeavesNoOther old = (u v : List ℕ) → Bytes u → Bytes v → EveryByte old u → EveryByte old v → u ≡ v
