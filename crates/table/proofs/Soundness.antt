-- What a sound table is, sentence by sentence of the paper, and back. Assumes nothing.
use Rattle.octets.proofs.Proving.{Bool, List, [], ◌&&◌, ◌*◌, ◌<◌, ◌∙◌, ◌∷◌, ◌≡◌, ◌≤◌, ap, arith, dec_lt, eq-eqb, eqb-true, get_or, le-leb, le-ltb, leb, leb-true, length, ltb, sym, true, ℕ}
use mathlib.Core.Bool.{beq}
use Rattle.octets.specs.Choice.{all_below}
use Rattle.octets.proofs.Below.{both, every-at, all-at, all-each}
use Rattle.bitrow.proofs.Packed.{same_bool, bool_same}
use Rattle.bitrow.proofs.Rows.{bit-past-row}
use Rattle.orders.specs.Order.{is_live}
use Rattle.orders.specs.Sound.{record_sound}
use Rattle.orders.proofs.Standing.{RecordGood, of-record, to-record}
use Rattle.header.specs.Limits.{header_size}
use Rattle.header.specs.Sound.{header_sound}
use Rattle.header.proofs.Holds.{HeaderGood, Formed, of-header, to-header}
use Rattle.table.specs.Limits.{fewest_records, most_records}
use Rattle.table.specs.Table.{records_in, table_size, size_good, record_bytes, head_bytes, header, used_in, order_at, bit_bytes, is_marked, bits_good, sum_good, sound}
use Rattle.table.proofs.Stored.{bit-there, same-records}
use Rattle.table.proofs.Agreeing.{Agree}

-- ---- a table is 64 + 80n bytes and the bytes for n bits, n from 1 to 800

pub record Sized (t : List ℕ) : Type 0 where
  pub fewest : fewest_records ≤ records_in t
  pub most : records_in t ≤ most_records
  pub long : length t ≡ table_size (records_in t)

pub of_size : (t : List ℕ) → size_good t ≡ true → Sized t
unfolding size_good
of_size t e =
    let a = both (leb fewest_records (records_in t) && leb (records_in t) most_records) _ e in
    let b = both (leb fewest_records (records_in t)) _ a.0 in
    record { fewest = leb-true _ _ b.0; most = leb-true _ _ b.1; long = eqb-true _ _ a.1 }

pub to-size : (t : List ℕ) → Sized t → size_good t ≡ true
unfolding size_good
to-size t s = rw (le-leb _ _ s.fewest, le-leb _ _ s.most) (eq-eqb _ _ s.long)

pub same_size : (t u : List ℕ) → length u ≡ length t → Sized t → Sized u
same_size t u long s =
    let n = same-records t u long in
    record { fewest = omega (arith, n, s.fewest); most = omega (arith, n, s.most); long = long ∙ s.long ∙ ap table_size (sym n) }

-- it has a whole header
pub head-fits : (t : List ℕ) → Sized t → header_size ≤ length t
unfolding table_size
head-fits t s = omega (arith, s.long)

-- ---- the bits and the sum

module _ (t : List ℕ) where
  abbrev agrees : ℕ → Bool
  agrees j = beq (is_marked t j) (ltb j (used_in t) && is_live (order_at t j))

  pub of-kept : used_in t ≤ records_in t → bits_good t ≡ true → sum_good t ≡ true → Agree t (used_in t)
  unfolding bits_good sum_good is_marked
  of-kept within bits sum = record { bits = each; sum = eqb-true _ _ sum }
    where
      -- past the row there is neither a bit nor a record
      past : (j : ℕ) → 8 * length (bit_bytes t) ≤ j → is_marked t j ≡ (ltb j (used_in t) && is_live (order_at t j))
      past j g =
          elim (dec_lt j (used_in t)) [
            | yes l ↦ absurd (omega (arith, g, bit-there t j (omega (arith, l, within))))
            | no n ↦ rw (le-ltb j (used_in t) (omega arith)) (bit-past-row (bit_bytes t) j g)
          ]

      each : (j : ℕ) → is_marked t j ≡ (ltb j (used_in t) && is_live (order_at t j))
      each j =
          elim (dec_lt j (8 * length (bit_bytes t))) [
            | yes l ↦ same_bool (is_marked t j) _ (all-at agrees (8 * length (bit_bytes t)) j bits l)
            | no g ↦ past j (omega arith)
          ]

  pub to-kept : Agree t (used_in t) → (bits_good t ≡ true) × (sum_good t ≡ true)
  unfolding bits_good sum_good
  to-kept a = (
    all-each agrees (8 * length (bit_bytes t)) (λ j l. ap (λ (b : Bool). beq b (ltb j (used_in t) && is_live (order_at t j))) (a.bits j) ∙ bool_same (ltb j (used_in t) && is_live (order_at t j))),
    eq-eqb _ _ a.sum,
  )

-- ---- the table

-- all used records lie in the table
pub record Sound (t : List ℕ) : Type 0 where
  pub size : Sized t
  pub head : HeaderGood (header t) (records_in t)
  pub form : Formed (head_bytes t)
  pub used : used_in t ≡ (header t).used
  pub records : (i : ℕ) → i < (header t).used → RecordGood (record_bytes t i)
  pub kept : Agree t (header t).used

pub all-used : (t : List ℕ) → (header t).used ≤ records_in t → used_in t ≡ (header t).used
unfolding used_in
all-used t h = omega arith

-- what the definition asks, in its order
abbrev asked : List ℕ → List Bool
asked t = size_good t ∷ header_sound (head_bytes t) (records_in t) ∷ all_below (used_in t) (λ i. record_sound (record_bytes t i)) ∷ bits_good t ∷ sum_good t ∷ []

pub of-sound : (t : List ℕ) → sound t ≡ true → Sound t
unfolding sound header
of-sound t e =
    let answer : (k : ℕ) → get_or (asked t) k true ≡ true = λ k. every-at (asked t) k e in
    let h = of-header (head_bytes t) (records_in t) (answer 1) in
    let all = all-used t h.0.used in
    record {
      size = of_size t (answer 0);
      head = h.0;
      form = h.1;
      used = all;
      records = λ i l. of-record (record_bytes t i) (all-at (λ j. record_sound (record_bytes t j)) (used_in t) i (answer 2) (omega (arith, all)));
      kept = rw all at (of-kept t (omega (arith, all, h.0.used)) (answer 3) (answer 4));
    }

pub to-sound : (t : List ℕ) → Sized t → HeaderGood (header t) (records_in t) → Formed (head_bytes t) → ((i : ℕ) → i < (header t).used → record_sound (record_bytes t i) ≡ true)
    → Agree t (header t).used → sound t ≡ true
unfolding sound header
to-sound t size h form records kept =
    let all = all-used t h.used in
    let k = to-kept t (rw (sym all) at kept) in
    rw (to-size t size, to-header (head_bytes t) (records_in t) h form, all-each (λ j. record_sound (record_bytes t j)) (used_in t) (λ i l. records i (omega (arith, all))), k.0, k.1)

-- each used record is sound
pub each-sound : (t : List ℕ) → Sound t → (i : ℕ) → i < (header t).used → record_sound (record_bytes t i) ≡ true
each-sound t s i l = to-record (record_bytes t i) (s.records i l)
