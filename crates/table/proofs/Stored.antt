-- What a store does to a table: the value is read back, its bit is as it should be, the sum is what was said, and every other record, every other bit,
-- the header and the length stay. Assumes nothing.
use Rattle.octets.proofs.Proving.{Bool, List, ◌*◌, ◌+◌, ◌-◌, ◌/◌, ◌<◌, ◌^◌, ◌∙◌, ◌≡◌, ◌≢◌, ◌≤◌, ◌⊎◌, ap, ap₂, arith, dec_lt, drop, inl, inr, le-leb, le-ltb, length, length-drop, lt-ltb, suc, sym, take, take_all, zero, ℕ, ⊎_elim}
use Rattle.octets.specs.Bytes.{part, put, digits, number_of, whole_at}
use Rattle.octets.proofs.Laws.{length_digits, length-put, number_digits, part-put-same, part-put-before, part-put-after}
use Rattle.bitrow.specs.Row.{bit_at, with_bit_at}
use Rattle.bitrow.proofs.Rows.{bit-own, bit-other, length-with}
use Rattle.orders.specs.Limits.{record_size}
use Rattle.orders.specs.Order.{order_of, order_bytes, is_live, open_of}
use Rattle.orders.specs.declared.order.Order.{Order}
use Rattle.orders.specs.Whole.{WholeOrder}
use Rattle.orders.proofs.Spelled.{length-order, order-again}
use Rattle.header.specs.Limits.{header_size, sum_place}
use Rattle.header.specs.Header.{header_of, header_bytes}
use Rattle.header.specs.declared.Header.{Header}
use Rattle.header.specs.Whole.{WholeHeader}
use Rattle.header.proofs.Spelled.{length-header, header-again}
use Rattle.table.specs.Table.{records_in, record_place, HasRecord, record_bytes, head_bytes, header, used_in, order_at, bit_bytes, is_marked, open_sum, with_mark, with_open_sum, open_at, open_before, counted, store_record, store_order, store_header}

-- ---- places

pub record-fits : (t : List ℕ) (i : ℕ) → HasRecord t i → header_size + record_size * i + record_size ≤ length t
unfolding records_in
record-fits t i h = omega arith

pub head-there : (t : List ℕ) → header_size ≤ length t → head_bytes t ≡ take sum_place t
unfolding head_bytes
head-there t h = rw (le-ltb (length t) header_size h)

-- tables of one length have one number of records
pub same-records : (t u : List ℕ) → length u ≡ length t → records_in u ≡ records_in t
unfolding records_in
same-records t u long = ap (λ (n : ℕ). 8 * (n - header_size) / (8 * record_size + 1)) long

-- no more records are used than there are
pub used-within : (t : List ℕ) → used_in t ≤ records_in t
unfolding used_in
used-within t = omega arith

-- the bits stand behind the records, and there is one for each
pub bits-there : (t : List ℕ) → header_size ≤ length t → header_size + record_size * records_in t ≤ length t
unfolding records_in
bits-there t h = omega arith

pub bits-long : (t : List ℕ) → length (bit_bytes t) ≡ length t - (header_size + record_size * records_in t)
unfolding bit_bytes record_place
bits-long t = length-drop (header_size + record_size * records_in t) t

pub bit-there : (t : List ℕ) (i : ℕ) → HasRecord t i → i < 8 * length (bit_bytes t)
unfolding records_in
bit-there t i h = omega (arith, bits-long t)

-- so the bits are no fewer than so many records
pub covers : (t : List ℕ) (n : ℕ) → n ≤ records_in t → n ≤ 8 * length (bit_bytes t)
covers t zero h = omega arith
covers t (suc n) h = bit-there t n (omega (arith, h))

-- nor are they many more
pub few_bits : (t : List ℕ) → 8 * length (bit_bytes t) ≤ length t / 80 + 640
unfolding records_in
few_bits t = omega (arith, bits-long t)

pub bits-part : (t : List ℕ) → header_size ≤ length t → bit_bytes t ≡ part t (header_size + record_size * records_in t) (length t - (header_size + record_size * records_in t))
unfolding bit_bytes record_place
bits-part t h =
    let at : ℕ = header_size + record_size * records_in t in
    sym (take_all (length t - at) (drop at t) (omega (arith, length-drop at t)))

-- the bits of two tables of one length that agree from there on
same_bits : (t u : List ℕ) → header_size ≤ length t → length u ≡ length t
    → ((m : ℕ) → part u (header_size + record_size * records_in t) m ≡ part t (header_size + record_size * records_in t) m) → bit_bytes u ≡ bit_bytes t
same_bits t u h long agree =
    let n = same-records t u long in
    bits-part u (omega (arith, long)) ∙ rw (n, long) (agree (length t - (header_size + record_size * records_in t))) ∙ sym (bits-part t h)

-- ---- a record

module _ (t : List ℕ) (i : ℕ) (r : List ℕ) (there : HasRecord t i) (whole : length r ≡ record_size) where
  abbrev place : ℕ
  place = header_size + record_size * i

  abbrev behind : ℕ
  behind = header_size + record_size * records_in t

  abbrev placed : List ℕ
  placed = put t place r

  abbrev live : Bool
  live = is_live (order_at placed i)

  abbrev left : ℕ
  left = open_sum placed + open_at placed i - open_before t i

  abbrev u : List ℕ
  u = store_record t i r

  header-fits : header_size ≤ length t
  header-fits = omega (arith, record-fits t i there)

  fits : place + length r ≤ length t
  fits = omega (arith, whole, record-fits t i there)

  long₁ : length placed ≡ length t
  long₁ = length-put t place r fits

  -- what is read of the record once it is there
  placed-record : record_bytes placed i ≡ r
  unfolding record_bytes record_place
  placed-record = ap (part placed place) (sym whole) ∙ part-put-same t place r fits

  placed-order : order_at placed i ≡ order_of r
  unfolding order_at
  placed-order = ap order_of placed-record

  placed-sum : open_sum placed ≡ open_sum t
  unfolding open_sum
  placed-sum = ap number_of (part-put-before t place r fits sum_place 4 (omega arith))

  bits₁ : bit_bytes placed ≡ bit_bytes t
  bits₁ = same_bits t placed header-fits long₁ (λ m. part-put-after t place r fits behind m (omega (arith, whole, there)))

  row : List ℕ
  row = with_bit_at (bit_bytes placed) i live

  row_fits : behind + length row ≡ length placed
  unfolding row
  row_fits =
      omega (arith, length-with (bit_bytes placed) i live, ap length bits₁, bits-long t, bits-there t header-fits, long₁)

  marked : with_mark placed i live ≡ put placed behind row
  unfolding with_mark record_place row
  marked = ap (λ (n : ℕ). put placed (header_size + record_size * n) (with_bit_at (bit_bytes placed) i live)) (same-records t placed long₁)

  stored : u ≡ put (put placed behind row) sum_place (digits 4 left)
  unfolding store_record counted with_open_sum record_place
  stored = ap (λ (m : List ℕ). put m sum_place (digits 4 left)) marked

  long₂ : length (put placed behind row) ≡ length t
  long₂ = length-put placed behind row (omega (arith, row_fits)) ∙ long₁

  sum_fits : sum_place + length (digits 4 left) ≤ length (put placed behind row)
  sum_fits = omega (arith, length_digits 4 left, long₂, header-fits)

  pub record-length : length u ≡ length t
  record-length = ap length stored ∙ length-put (put placed behind row) sum_place (digits 4 left) sum_fits ∙ long₂

  -- a part that is neither the record nor bits nor the sum stays
  part_stays : (at n : ℕ) → at + n ≤ behind → (at + n ≤ sum_place) ⊎ (header_size ≤ at) → part u at n ≡ part placed at n
  part_stays at n before apart =
      ap (λ (l : List ℕ). part l at n) stored
      ∙ ⊎_elim (part-put-before (put placed behind row) sum_place (digits 4 left) sum_fits at n) (λ h. part-put-after (put placed behind row) sum_place (digits 4 left) sum_fits at n (omega (arith, length_digits 4 left))) apart
      ∙ part-put-before placed behind row (omega (arith, row_fits)) at n before

  pub record-stored : record_bytes u i ≡ r
  unfolding record_bytes record_place
  record-stored = part_stays place record_size (omega (arith, there)) (inr (omega arith)) ∙ placed-record

  pub other-records : (j : ℕ) → HasRecord t j → j ≢ i → record_bytes u j ≡ record_bytes t j
  unfolding record_bytes record_place
  other-records j there' apart =
      part_stays (header_size + record_size * j) record_size (omega (arith, there')) (inr (omega arith))
      ∙ elim (dec_lt j i) [
        | yes l ↦ part-put-before t place r fits (header_size + record_size * j) record_size (omega arith)
        | no g ↦ part-put-after t place r fits (header_size + record_size * j) record_size (omega (arith, whole))
      ]

  pub head-stays : head_bytes u ≡ head_bytes t
  head-stays =
      head-there u (omega (arith, record-length, header-fits))
      ∙ part_stays 0 sum_place (omega arith) (inl (omega arith))
      ∙ part-put-before t place r fits 0 sum_place (omega arith)
      ∙ sym (head-there t header-fits)

  pub header-stays : header u ≡ header t
  unfolding header
  header-stays = ap header_of head-stays

  -- the bits: that of the record, and the others
  bits-after : bit_bytes u ≡ with_bit_at (bit_bytes t) i live
  unfolding row
  bits-after =
      bits-part u (omega (arith, record-length, header-fits))
      ∙ rw (same-records t u record-length, record-length)
      (ap (λ (l : List ℕ). part l behind (length t - behind)) stored
      ∙ part-put-after (put placed behind row) sum_place (digits 4 left) sum_fits behind (length t - behind) (omega (arith, length_digits 4 left))
      ∙ ap (part (put placed behind row) behind) sized
      ∙ part-put-same placed behind row (omega (arith, row_fits)))
      ∙ ap (λ (b : List ℕ). with_bit_at b i live) bits₁
    where
      sized : length t - behind ≡ length row
      sized = omega (arith, row_fits, long₁)

  pub own-mark : is_marked u i ≡ is_live (order_of r)
  unfolding is_marked
  own-mark = ap (λ (b : List ℕ). bit_at b i) bits-after ∙ bit-own (bit_bytes t) i live (bit-there t i there) ∙ ap is_live placed-order

  pub other-marks : (j : ℕ) → j ≢ i → is_marked u j ≡ is_marked t j
  unfolding is_marked
  other-marks j apart = ap (λ (b : List ℕ). bit_at b j) bits-after ∙ bit-other (bit_bytes t) i live j apart

  -- the sum, where it fits its four bytes
  read_back : left ≡ open_sum t + (open_of (order_of r)).0 - open_before t i
  read_back = ap₂ (λ (s n : ℕ). s + n - open_before t i) placed-sum (ap (λ (o : Order). (open_of o).0) placed-order)

  stored-sum : left < 256 ^ 4 → open_sum u ≡ left
  unfolding open_sum number_of
  stored-sum small =
      ap (λ (l : List ℕ). whole_at l sum_place 4) stored
      ∙ ap (λ (n : ℕ). number_of (part (put (put placed behind row) sum_place (digits 4 left)) sum_place n)) (sym (length_digits 4 left))
      ∙ ap number_of (part-put-same (put placed behind row) sum_place (digits 4 left) sum_fits)
      ∙ number_digits 4 left small

  pub sum-stored : open_sum t + (open_of (order_of r)).0 - open_before t i < 256 ^ 4 → open_sum u ≡ open_sum t + (open_of (order_of r)).0 - open_before t i
  sum-stored small = stored-sum (omega (arith, small, read_back)) ∙ read_back

-- ---- an order

module _ (t : List ℕ) (i : ℕ) (o : Order) (there : HasRecord t i) where
  pub order-stored : store_order t i o ≡ store_record t i (order_bytes o)
  unfolding store_order
  order-stored = rw (lt-ltb i (records_in t) there)

  module _ (w : WholeOrder o) where
    pub order-length : length (store_order t i o) ≡ length t
    order-length = ap length order-stored ∙ record-length t i (order_bytes o) there (length-order o w)

    pub order-bytes : record_bytes (store_order t i o) i ≡ order_bytes o
    order-bytes = ap (λ (u : List ℕ). record_bytes u i) order-stored ∙ record-stored t i (order_bytes o) there (length-order o w)

    pub order-read-back : order_at (store_order t i o) i ≡ o
    unfolding order_at
    order-read-back = ap order_of order-bytes ∙ order-again o w

    pub others-stay : (j : ℕ) → HasRecord t j → j ≢ i → record_bytes (store_order t i o) j ≡ record_bytes t j
    others-stay j there' apart = ap (λ (u : List ℕ). record_bytes u j) order-stored ∙ other-records t i (order_bytes o) there (length-order o w) j there' apart

    pub order-header : header (store_order t i o) ≡ header t
    order-header = ap header order-stored ∙ header-stays t i (order_bytes o) there (length-order o w)

    pub order-head : head_bytes (store_order t i o) ≡ head_bytes t
    order-head = ap head_bytes order-stored ∙ head-stays t i (order_bytes o) there (length-order o w)

-- ---- the header

module _ (t : List ℕ) (h : Header) (there : header_size ≤ length t) (w : WholeHeader h) where
  over : 0 + length (header_bytes h) ≤ length t
  over = omega (arith, length-header h w)

  headed : store_header t h ≡ put t 0 (header_bytes h)
  unfolding store_header
  headed = rw (le-leb header_size (length t) there)

  pub header-length : length (store_header t h) ≡ length t
  header-length = ap length headed ∙ length-put t 0 (header_bytes h) over

  pub header-bytes : head_bytes (store_header t h) ≡ header_bytes h
  header-bytes =
      head-there (store_header t h) (omega (arith, header-length))
      ∙ ap (take sum_place) headed
      ∙ ap (part (put t 0 (header_bytes h)) 0) (sym (length-header h w))
      ∙ part-put-same t 0 (header_bytes h) over

  pub header-read-back : header (store_header t h) ≡ h
  unfolding header
  header-read-back = ap header_of header-bytes ∙ header-again h w

  -- all that stands behind the header's value
  rest-stays : (at n : ℕ) → sum_place ≤ at → part (store_header t h) at n ≡ part t at n
  rest-stays at n g = ap (λ (u : List ℕ). part u at n) headed ∙ part-put-after t 0 (header_bytes h) over at n (omega (arith, length-header h w))

  pub records-stay : (i : ℕ) → record_bytes (store_header t h) i ≡ record_bytes t i
  unfolding record_bytes record_place
  records-stay i = rest-stays (header_size + record_size * i) record_size (omega arith)

  pub marks_stay : (i : ℕ) → is_marked (store_header t h) i ≡ is_marked t i
  unfolding is_marked
  marks_stay i =
      ap (λ (b : List ℕ). bit_at b i) (same_bits t (store_header t h) there header-length (λ m. rest-stays (header_size + record_size * records_in t) m (omega arith)))

  pub sum-stays : open_sum (store_header t h) ≡ open_sum t
  unfolding open_sum
  sum-stays = ap number_of (rest-stays sum_place 4 (omega arith))
