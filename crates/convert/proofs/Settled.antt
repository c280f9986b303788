-- What is said of every byte of a new table leaves no other: its pieces are told, one behind the other, and the bits tell the last of them. Assumes
-- nothing.
use Rattle.octets.proofs.Proving.{List, ◌*◌, ◌++◌, ◌+◌, ◌-◌, ◌∙◌, ◌≡◌, ◌≤◌, ap, ap₂, arith, drop, drop-drop, get_or-drop, length, length-drop, sym, take, take-append-drop, ℕ}
use Rattle.octets.specs.Bytes.{part, digits}
use Rattle.octets.proofs.Laws.{digits_number}
use Rattle.bitrow.specs.Row.{bit_at}
use Rattle.bitrow.proofs.Rows.{row-only}
use Rattle.wire.specs.Legal.{Bytes}
use Rattle.header.specs.Limits.{header_size, sum_place}
use Rattle.orders.specs.Limits.{record_size}
use Rattle.table.specs.Table.{record_place, table_size, bit_bytes, is_marked, open_sum}
use Rattle.convert.specs.Old.{old_records}
use Rattle.convert.specs.Converted.{EveryByte, LeavesNoOther}
use Rattle.convert.proofs.Carried.{records-told}

drop-bytes : (l : List ℕ) → Bytes l → (at : ℕ) → Bytes (drop at l)
drop-bytes l b at k = rw (get_or-drop at l k 0) (b (at + k))

module _ (old u v : List ℕ) (bu : Bytes u) (bv : Bytes v) (eu : EveryByte old u) (ev : EveryByte old v) where
  abbrev n : ℕ
  n = old_records old

  abbrev behind : ℕ
  behind = header_size + record_size * n

  reaches : (l : List ℕ) → EveryByte old l → 4 ≤ length (drop sum_place l)
  unfolding table_size
  reaches l e = omega (arith, length-drop sum_place l, e.long)

  -- the four bytes of the sum
  sums : part u sum_place 4 ≡ part v sum_place 4
  unfolding open_sum
  sums =
      sym (digits_number (drop sum_place u) (drop-bytes u bu sum_place) 4 (reaches u eu)) ∙ ap (digits 4) (eu.sum ∙ sym ev.sum) ∙ digits_number (drop sum_place v) (drop-bytes v bv sum_place) 4 (reaches v ev)

  bits_of : (l : List ℕ) → length l ≡ table_size n → bit_bytes l ≡ drop behind l
  unfolding bit_bytes record_place
  bits_of l long = ap (λ (m : ℕ). drop (header_size + record_size * m) l) (records-told l n long)

  bits : drop behind u ≡ drop behind v
  unfolding is_marked
  bits =
      row-only (drop behind u) (drop behind v) (drop-bytes u bu behind) (drop-bytes v bv behind)
      (length-drop behind u ∙ ap (λ (m : ℕ). m - behind) (eu.long ∙ sym ev.long) ∙ sym (length-drop behind v))
      (λ i. ap (λ (l : List ℕ). bit_at l i) (sym (bits_of u eu.long)) ∙ eu.bits i ∙ sym (ev.bits i) ∙ ap (λ (l : List ℕ). bit_at l i) (bits_of v ev.long))

  pieces : (l : List ℕ) → take sum_place l ++ (part l sum_place 4 ++ (part l header_size (record_size * n) ++ drop behind l)) ≡ l
  pieces l =
      ap (λ (x : List ℕ). take sum_place l ++ (part l sum_place 4 ++ x)) (next header_size (record_size * n))
      ∙ ap (λ (x : List ℕ). take sum_place l ++ x) (next sum_place 4)
      ∙ take-append-drop sum_place l
    where
      -- a piece and what is behind it
      next : (at m : ℕ) → part l at m ++ drop (at + m) l ≡ drop at l
      next at m = ap (λ (x : List ℕ). part l at m ++ x) (sym (drop-drop m at l)) ∙ take-append-drop m (drop at l)

  same-table : u ≡ v
  same-table =
      sym (pieces u)
      ∙ ap₂ ◌++◌ (eu.head ∙ sym ev.head) (ap₂ ◌++◌ sums (ap₂ ◌++◌ (eu.records ∙ sym ev.records) bits))
      ∙ pieces v

pub every_byte : (old : List ℕ) → LeavesNoOther old
every_byte old u v bu bv eu ev = same-table old u v bu bv eu ev
