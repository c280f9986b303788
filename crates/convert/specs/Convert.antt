-- The converter (Ask 6): an old table rebuilt in a second lent buffer, and nothing else touched.
use Rattle.std.specs.Prelude.{ℕ, zero, suc, not, List, ◌++◌, length, drop, eqb}
use Rattle.octets.specs.Choice.{first_of◌, ◌⇒◌⨾◌}
use Rattle.octets.specs.Bytes.{zeros}
use Rattle.bitrow.specs.Row.{bytes_for}
use Rattle.answers.specs.Answer.{if_done}
use Rattle.answers.specs.Answer.{Answer}
use Rattle.answers.specs.Answer.{Done, NotSound, NoRoom}
use Rattle.header.specs.Limits.{header_size}
use Rattle.table.specs.Table.{table_size, order_at, store_order}
use Rattle.convert.specs.Old.{old_records, old_used, renewed, old_sound}

-- 10 if the old table isn't sound in its old form, then 13 unless the second buffer, of m bytes, has exactly the new length, else 0
unfoldable pub convert_answer : List ℕ → ℕ → Answer
convert_answer old m =
    first_of
    not (old_sound old) ⇒ NotSound
    ⨾ not (eqb m (table_size (old_records old))) ⇒ NoRoom
    ⨾ Done

-- header and records are the old ones but for byte 2 and bytes 60-63; no bit is set and nothing is open yet
unfoldable pub carried : List ℕ → List ℕ
carried old = renewed old ++ (zeros 4 ++ (drop header_size old ++ zeros (bytes_for (old_records old))))

-- the first n orders of the old table stored in t, each in its own record: storing a record is what makes its bit and adds to the sum
unfoldable pub with_orders : List ℕ → ℕ → List ℕ → List ℕ
with_orders old zero t = t
with_orders old (suc n) t = store_order (with_orders old n t) n (order_at old n)

-- what stands in the second buffer t afterwards
unfoldable pub converted : List ℕ → List ℕ → List ℕ
converted old t = if_done (convert_answer old (length t)) (with_orders old (old_used old) (carried old)) t
