-- What keeps a table sound: a good order stored in a used record or in the next one, and a good header stored. A step is made of such stores. Assumes
-- nothing.
use Rattle.octets.proofs.Proving.{List, ◌<◌, ◌∙◌, ◌≡◌, ◌≢◌, ◌≤◌, ap, arith, inl, length, refl, subst, true, ℕ, ℕ_discrete}
use Rattle.orders.specs.Limits.{most_shares}
use Rattle.orders.specs.declared.order.Order.{Order}
use Rattle.orders.specs.Sound.{record_sound}
use Rattle.orders.specs.Whole.{WholeOrder}
use Rattle.orders.proofs.Standing.{OrderGood, order-sound, of-record, open-most}
use Rattle.header.specs.declared.Header.{Header}
use Rattle.header.specs.Whole.{WholeHeader}
use Rattle.header.proofs.Holds.{HeaderGood, spelled-form}
use Rattle.table.specs.Limits.{most_records}
use Rattle.table.specs.Table.{records_in, HasRecord, record_bytes, order_at, open_at, header, sound, store_order, store_header}
use Rattle.table.proofs.Stored.{same-records, order-stored, order-length, order-bytes, others-stay, order-head, order-header, header-length, header-bytes, header-read-back, records-stay}
use Rattle.table.proofs.Agreeing.{Agree, Grows, store-agrees, header-agrees}
use Rattle.table.proofs.Soundness.{Sized, same_size, head-fits, of-sound, to-sound, each-sound}

-- what is open of a sound record
open-small : (t : List ℕ) (j : ℕ) → record_sound (record_bytes t j) ≡ true → open_at t j ≤ most_shares
unfolding order_at
open-small t j e = open-most (record_bytes t j) (of-record (record_bytes t j) e)

module _ (t : List ℕ) (i : ℕ) (o : Order) (there : HasRecord t i) (w : WholeOrder o) (good : OrderGood o) where
  -- the first n records, where those but i were sound before
  pub records-after : (n : ℕ) → n ≤ records_in t → ((j : ℕ) → j < n → j ≢ i → record_sound (record_bytes t j) ≡ true)
      → (j : ℕ) → j < n → record_sound (record_bytes (store_order t i o) j) ≡ true
  records-after n within others j h =
      elim (ℕ_discrete j i) [
        | yes e ↦ ap (λ (k : ℕ). record_sound (record_bytes (store_order t i o) k)) e ∙ ap record_sound (order-bytes t i o there w) ∙ order-sound o w good
        | no e ↦ ap record_sound (others-stay t i o there w j (omega (arith, h, within)) e) ∙ others j h e
      ]

  -- the bits and the sum, where record i is one of the first n or the next
  pub agrees_after : (n m : ℕ) → Grows n i m → n ≤ records_in t → m ≤ most_records → ((j : ℕ) → j < m → record_sound (record_bytes (store_order t i o) j) ≡ true)
      → Agree t n → Agree (store_order t i o) m
  agrees_after n m grows within most sounds a =
      store-agrees t i o there w n m within a grows most
      (λ j l. subst (λ (u : List ℕ). open_at u j ≤ most_shares) (order-stored t i o there) (open-small (store_order t i o) j (sounds j l)))

  pub order-keeps : i < (header t).used → sound t ≡ true → sound (store_order t i o) ≡ true
  order-keeps used e =
      let s = of-sound t e in
      let u = store_order t i o in
      let long : length u ≡ length t = order-length t i o there w in
      let same : header u ≡ header t = order-header t i o there w in
      let within : (header t).used ≤ records_in t = s.head.used in
      let records = records-after (header t).used within (λ k l _. each-sound t s k l) in
      to-sound u (same_size t u long s.size) (rw (same, same-records t u long) s.head) (rw (order-head t i o there w) s.form) (rw same records)
      (rw same (agrees_after (header t).used (header t).used (inl (used, refl)) within (omega (arith, within, s.size.most)) records s.kept))

pub header-keeps : (h : Header) → WholeHeader h → (t : List ℕ) → Sized t → HeaderGood h (records_in t) → ((j : ℕ) → j < h.used → record_sound (record_bytes t j) ≡ true)
    → Agree t h.used → sound (store_header t h) ≡ true
header-keeps h w t size good records kept =
    let u = store_header t h in
    let there = head-fits t size in
    let long : length u ≡ length t = header-length t h there w in
    to-sound u (same_size t u long size) (rw (header-read-back t h there w, same-records t u long) good) (rw (header-bytes t h there w) (spelled-form h w))
    (rw (header-read-back t h there w) (λ j l. ap record_sound (records-stay t h there w j) ∙ records j l))
    (rw (header-read-back t h there w) (header-agrees t h there w h.used kept))
