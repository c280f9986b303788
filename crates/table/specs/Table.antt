-- The table: its bytes, when they are sound, which record a token means, and how a value is stored (Table and outbox).
use Rattle.std.specs.Prelude.{ℕ, zero, suc, ◌+◌, ◌-◌, ◌*◌, ◌/◌, ◌<◌, min, Bool, ◌&&◌, List, [], ◌∷◌, length, take, drop, leb, ltb, eqb}
use Rattle.std.specs.Bool.{beq}
use Rattle.octets.specs.Choice.{pick, every, all_below, first_below}
use Rattle.octets.specs.Bytes.{part, put, same, zeros, whole_at, digits}
use Rattle.bitrow.specs.Row.{bytes_for, bit_at, with_bit_at}
use Rattle.header.specs.Limits.{header_size, sum_place}
use Rattle.header.specs.Header.{header_of, header_bytes}
use Rattle.header.specs.declared.Header.{Header}
use Rattle.header.specs.Sound.{header_sound}
use Rattle.orders.specs.Limits.{record_size}
use Rattle.orders.specs.Order.{order_of, order_bytes, no_order, is_live, open_of}
use Rattle.orders.specs.declared.order.Order.{Order}
use Rattle.orders.specs.Sound.{record_sound}
use Rattle.table.specs.Limits.{fewest_records, most_records}

-- ---- places: a table is 64 + 80n bytes and the bytes for n bits (Ask 6), n from 1 to 800

-- as many as there is room for, each with its bit: eight records and the byte of their bits are 641 bytes
unfoldable pub records_in : List ℕ → ℕ
records_in t = 8 * (length t - header_size) / (8 * record_size + 1)

unfoldable pub table_size : ℕ → ℕ
table_size n = header_size + record_size * n + bytes_for n

unfoldable pub size_good : List ℕ → Bool
size_good t = leb fewest_records (records_in t) && leb (records_in t) most_records && eqb (length t) (table_size (records_in t))

unfoldable pub record_place : ℕ → ℕ
record_place i = header_size + record_size * i

-- record i lies in the table
abbrev pub HasRecord : List ℕ → ℕ → Type 0
HasRecord t i = i < records_in t

unfoldable pub record_bytes : List ℕ → ℕ → List ℕ
record_bytes t i = part t (record_place i) record_size

-- the bytes of the header's value; zeros where the table has no whole header
unfoldable pub head_bytes : List ℕ → List ℕ
head_bytes t = pick (ltb (length t) header_size) (zeros sum_place) (take sum_place t)

unfoldable pub header : List ℕ → Header
header t = header_of (head_bytes t)

-- the used records, of those that there are: a sound table has no more
unfoldable pub used_in : List ℕ → ℕ
used_in t = min (header t).used (records_in t)

unfoldable pub order_at : List ℕ → ℕ → Order
order_at t i = order_of (record_bytes t i)

-- ---- what is kept of the live orders (Ask 6)

-- bits, one a record, behind the records
unfoldable pub bit_bytes : List ℕ → List ℕ
bit_bytes t = drop (record_place (records_in t)) t

unfoldable pub is_marked : List ℕ → ℕ → Bool
is_marked t i = bit_at (bit_bytes t) i

-- bytes 60-63
unfoldable pub open_sum : List ℕ → ℕ
open_sum t = whole_at t sum_place 4

-- a bit is set exactly while its record is used and live; spare bits are zero
unfoldable pub bits_good : List ℕ → Bool
bits_good t = all_below (8 * length (bit_bytes t)) (λ i. beq (is_marked t i) (ltb i (used_in t) && is_live (order_at t i)))

-- what the numbers below n add up to
unfoldable pub sum_below : ℕ → (ℕ → ℕ) → ℕ
sum_below zero f = 0
sum_below (suc n) f = sum_below n f + f n

abbrev pub open_at : List ℕ → ℕ → ℕ
open_at t i = (open_of (order_at t i)).0

-- the sum of open shares of all live orders
unfoldable pub sum_good : List ℕ → Bool
sum_good t = eqb (open_sum t) (sum_below (used_in t) (open_at t))

-- ---- a sound table

unfoldable pub sound : List ℕ → Bool
sound t =
    every
    (size_good t
    ∷ header_sound (head_bytes t) (records_in t)
    ∷ all_below (used_in t) (λ i. record_sound (record_bytes t i))
    ∷ bits_good t
    ∷ sum_good t
    ∷ [])

-- ---- a token means its first used record

-- record i has this token
unfoldable pub has_token : List ℕ → List ℕ → ℕ → Bool
has_token t token i = same (order_at t i).token token

-- where no record has it, the number behind the used ones
unfoldable pub place_of : List ℕ → List ℕ → ℕ
place_of t token = first_below (used_in t) (has_token t token)

-- the order at a place so found
unfoldable pub order_from : List ℕ → ℕ → Order
order_from t i = pick (ltb i (used_in t)) (order_at t i) no_order

unfoldable pub order_named : List ℕ → List ℕ → Order
order_named t token = order_from t (place_of t token)

-- ---- 'the first order such that', in record order (Ask 5)

-- the number behind the used records where there is none
unfoldable pub first_such : List ℕ → (Order → Bool) → ℕ
first_such t test = first_below (used_in t) (λ i. test (order_at t i))

-- the same, looked for among the records whose bits are set (Ask 6): that a sound table has no other answer is proved
unfoldable pub first_marked : List ℕ → (Order → Bool) → ℕ
first_marked t test = first_below (used_in t) (λ i. is_marked t i && test (order_at t i))

-- ---- storing: what is no part of the table is not stored

unfoldable pub with_mark : List ℕ → ℕ → Bool → List ℕ
with_mark t i on = put t (record_place (records_in t)) (with_bit_at (bit_bytes t) i on)

unfoldable pub with_open_sum : List ℕ → ℕ → List ℕ
with_open_sum t n = put t sum_place (digits 4 n)

-- what a record has added to the sum so far: nothing, unless its bit is set
unfoldable pub open_before : List ℕ → ℕ → ℕ
open_before t i = pick (is_marked t i) (open_at t i) 0

-- record i counted as it stands: its bit, and in the sum what is open of it in the place of what was (Ask 6)
unfoldable pub counted : List ℕ → ℕ → ℕ → List ℕ
counted t i before = with_open_sum (with_mark t i (is_live (order_at t i))) (open_sum t + open_at t i - before)

-- 80 bytes put into record i; nothing else keeps the bits and the sum
unfoldable pub store_record : List ℕ → ℕ → List ℕ → List ℕ
store_record t i r = counted (put t (record_place i) r) i (open_before t i)

unfoldable pub store_order : List ℕ → ℕ → Order → List ℕ
store_order t i o = pick (ltb i (records_in t)) (store_record t i (order_bytes o)) t

-- the sum stays
unfoldable pub store_header : List ℕ → Header → List ℕ
store_header t h = pick (leb header_size (length t)) (put t 0 (header_bytes h)) t
