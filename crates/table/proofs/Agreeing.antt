-- The bits and the sum agree with the first n records: what a table begins with, what a store keeps, and what a walk over the records finds in a sound
-- table. Assumes nothing.
use Rattle.octets.proofs.Proving.{Bool, List, ◌&&◌, ◌+◌, ◌<◌, ◌∙◌, ◌≡◌, ◌≢◌, ◌≤◌, ◌⊎◌, ap, arith, dec_lt, false, inl, inr, le-ltb, length, lt-ltb, ltb, refl, subst, sym, true, ℕ, ℕ_discrete}
use Rattle.octets.specs.Choice.{pick}
use Rattle.octets.specs.Bytes.{zeros}
use Rattle.bitrow.specs.Row.{bit_at}
use Rattle.bitrow.proofs.Rows.{zeros-clear}
use Rattle.orders.specs.Limits.{most_shares}
use Rattle.orders.specs.Order.{order_of, order_bytes, is_live, open_of}
use Rattle.orders.specs.declared.order.Order.{Order}
use Rattle.orders.specs.Whole.{WholeOrder}
use Rattle.orders.proofs.Spelled.{length-order}
use Rattle.header.specs.Limits.{header_size}
use Rattle.header.specs.declared.Header.{Header}
use Rattle.header.specs.Whole.{WholeHeader}
use Rattle.table.specs.Limits.{most_records}
use Rattle.table.specs.Table.{records_in, HasRecord, order_at, bit_bytes, is_marked, open_sum, sum_below, open_at, open_before, store_record, store_order, store_header}
use Rattle.table.proofs.Sums.{sum_same, sum-changed, sum-next, sum-most}
use Rattle.table.proofs.Stored.{order-stored, record-stored, other-records, own-mark, other-marks, sum-stored, records-stay, marks_stay, sum-stays}

pub record Agree (t : List ℕ) (n : ℕ) : Type 0 where
  pub bits : (j : ℕ) → is_marked t j ≡ (ltb j n && is_live (order_at t j))
  pub sum : open_sum t ≡ sum_below n (open_at t)

-- where no bit is set and nothing is said to be open, they agree with no record
pub none-agrees : (t : List ℕ) (k : ℕ) → bit_bytes t ≡ zeros k → open_sum t ≡ 0 → Agree t 0
unfolding is_marked sum_below
none-agrees t k clear none =
    record { bits = λ j. ap (λ (b : List ℕ). bit_at b j) clear ∙ zeros-clear k j ∙ sym (rw (le-ltb j 0 (omega arith))); sum = none }

-- nothing is open of what isn't live
open-live : (o : Order) → pick (is_live o) (open_of o).0 0 ≡ (open_of o).0
unfolding open_of
open-live o = by (is_live o) refl
  where
    by : (b : Bool) → is_live o ≡ b → pick b (open_of o).0 0 ≡ (open_of o).0
    by true e = refl
    by false e = rw e

-- record i is one of the first n, or the next; m are the first ones then
abbrev pub Grows : ℕ → ℕ → ℕ → Type 0
Grows n i m = ((i < n) × (m ≡ n)) ⊎ ((i ≡ n) × (m ≡ n + 1))

module _ (t : List ℕ) (i : ℕ) (o : Order) (there : HasRecord t i) (w : WholeOrder o) (n m : ℕ) (within : n ≤ records_in t) (a : Agree t n) where
  abbrev u : List ℕ
  u = store_record t i (order_bytes o)

  here : order_at u i ≡ order_of (order_bytes o)
  unfolding order_at
  here = ap order_of (record-stored t i (order_bytes o) there (length-order o w))

  elsewhere : (j : ℕ) → j < n → j ≢ i → order_at u j ≡ order_at t j
  unfolding order_at
  elsewhere j l apart = ap order_of (other-records t i (order_bytes o) there (length-order o w) j (omega (arith, l, within)) apart)

  bits-follow : Grows n i m → (j : ℕ) → is_marked u j ≡ (ltb j m && is_live (order_at u j))
  bits-follow grows j =
      elim (ℕ_discrete j i) [
        | yes e ↦ rw e (own-mark t i (order_bytes o) there (length-order o w) ∙ sym (rw (lt-ltb i m (own grows)) (ap is_live here)))
        | no d ↦ other-marks t i (order_bytes o) there (length-order o w) j d ∙ a.bits j ∙ other d grows
      ]
    where
      own : Grows n i m → i < m
      own (inl c) = omega (arith, c.0, c.1)
      own (inr c) = omega (arith, c.0, c.1)

      -- whether it is one of the first is not changed
      same : j ≢ i → Grows n i m → (j < n → j < m) × ((j < n → ⊥) → m ≤ j)
      same d (inl c) = (λ l. omega (arith, c.1), λ g. omega (arith, c.1))
      same d (inr c) = (λ l. omega (arith, c.1), λ g. omega (arith, c.0, c.1, d))

      other : j ≢ i → Grows n i m → (ltb j n && is_live (order_at t j)) ≡ (ltb j m && is_live (order_at u j))
      other d grows =
          elim (dec_lt j n) [
            | yes l ↦ rw (lt-ltb j n l, lt-ltb j m ((same d grows).0 l)) (ap is_live (sym (elsewhere j l d)))
            | no g ↦ rw (le-ltb j n (omega arith), le-ltb j m ((same d grows).1 g))
          ]

  -- what the record added so far
  added-so-far : i < n → open_before t i ≡ open_at t i
  unfolding open_before
  added-so-far l =
      let alive : is_marked t i ≡ is_live (order_at t i) = a.bits i ∙ rw (lt-ltb i n l) in
      ap (λ (b : Bool). pick b (open_at t i) 0) alive ∙ open-live (order_at t i)

  nothing-so-far : i ≡ n → open_before t i ≡ 0
  unfolding open_before
  nothing-so-far e =
      let unmarked : is_marked t i ≡ false = a.bits i ∙ rw (le-ltb i n (omega (arith, e))) in
      ap (λ (b : Bool). pick b (open_at t i) 0) unmarked

  sum-follows : Grows n i m → open_sum t + (open_of (order_of (order_bytes o))).0 ≡ sum_below m (open_at u) + open_before t i
  sum-follows (inl c) =
      let own : open_at u i ≡ (open_of (order_of (order_bytes o))).0 = ap (λ (q : Order). (open_of q).0) here in
      let moved = sum-changed (open_at t) (open_at u) n i c.0 (λ k l d. ap (λ (q : Order). (open_of q).0) (sym (elsewhere k l d))) in
      rw c.1 (omega (arith, a.sum, own, moved, added-so-far c.0))
  sum-follows (inr c) =
      let own : open_at u i ≡ (open_of (order_of (order_bytes o))).0 = ap (λ (q : Order). (open_of q).0) here in
      let kept = sum_same (open_at t) (open_at u) n (λ k l. ap (λ (q : Order). (open_of q).0) (sym (elsewhere k l (λ e. omega (arith, c.0))))) in
      rw c.1 (omega (arith, a.sum, own, kept, nothing-so-far c.0, ap (open_at u) c.0, sum-next (open_at u) n))

  pub store-agrees : Grows n i m → m ≤ most_records → ((j : ℕ) → j < m → open_at u j ≤ most_shares) → Agree (store_order t i o) m
  store-agrees grows most small =
      subst (λ (x : List ℕ). Agree x m) (sym (order-stored t i o there))
      record {
        bits = bits-follow grows;
        sum = sum-stored t i (order_bytes o) there (length-order o w) (omega (arith, sum-follows grows, sum-most (open_at u) m small)) ∙ omega (arith, sum-follows grows);
      }

module _ (t : List ℕ) (h : Header) (there : header_size ≤ length t) (w : WholeHeader h) (n : ℕ) where
  order-stays : (j : ℕ) → order_at (store_header t h) j ≡ order_at t j
  unfolding order_at
  order-stays j = ap order_of (records-stay t h there w j)

  pub header-agrees : Agree t n → Agree (store_header t h) n
  header-agrees a =
      record {
        bits = λ j. marks_stay t h there w j ∙ a.bits j ∙ ap (λ (o : Order). ltb j n && is_live o) (sym (order-stays j));
        sum = sum-stays t h there w ∙ a.sum ∙ sum_same (open_at t) (open_at (store_header t h)) n (λ k l. ap (λ (o : Order). (open_of o).0) (sym (order-stays k)));
      }
