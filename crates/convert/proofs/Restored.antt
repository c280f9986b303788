-- Orders of an old table stored again, each in its own record: every record keeps its bytes, the header stays, and the bits and the sum come to agree
-- with one record more. Assumes nothing.
use Rattle.octets.proofs.Proving.{List, ◌<◌, ◌∙◌, ◌≡◌, ◌≤◌, ap, arith, inr, length, refl, subst, suc, sym, true, zero, ℕ, ℕ_discrete}
use Rattle.octets.proofs.Laws.{length_part, part_bytes}
use Rattle.wire.specs.Legal.{Bytes}
use Rattle.orders.specs.Limits.{record_size, most_shares}
use Rattle.orders.specs.Order.{order_of, order_bytes, open_of}
use Rattle.orders.specs.Sound.{record_sound}
use Rattle.orders.specs.Whole.{WholeOrder}
use Rattle.orders.proofs.Spelled.{record-again}
use Rattle.orders.proofs.Standing.{of-record, open-most}
use Rattle.table.specs.Table.{records_in, HasRecord, table_size, record_place, record_bytes, head_bytes, order_at, open_at, store_order}
use Rattle.table.proofs.Stored.{head-there, order-stored, order-length, order-bytes, others-stay, order-head}
use Rattle.table.proofs.Soundness.{head-fits}
use Rattle.table.proofs.Agreeing.{Agree, store-agrees}
use Rattle.convert.specs.Old.{old_records, old_used, renewed}
use Rattle.convert.specs.Convert.{carried, with_orders}
use Rattle.convert.proofs.Former.{OldSound, old-fits}
use Rattle.convert.proofs.Carried.{records-told, carried-long, carried-size, carried-head, carried-record, carried-agrees}
use Rattle.convert.proofs.Reading.{read_whole}

module _ (old : List ℕ) (bytes : Bytes old) (ok : OldSound old) where
  abbrev n : ℕ
  n = old_records old

  -- ---- an order that is read of the old table and spelled again

  record-long : (i : ℕ) → i < n → length (record_bytes old i) ≡ record_size
  unfolding record_bytes record_place
  record-long i h = length_part old _ record_size (old-fits old i h)

  record-bytes : (i : ℕ) → Bytes (record_bytes old i)
  unfolding record_bytes
  record-bytes i = part_bytes old bytes (record_place i) record_size

  whole : (i : ℕ) → i < n → WholeOrder (order_at old i)
  unfolding order_at
  whole i h = read_whole (record_bytes old i) (record-bytes i) (record-long i h)

  again : (i : ℕ) → i < n → order_bytes (order_at old i) ≡ record_bytes old i
  unfolding order_at
  again i h = record-again (record_bytes old i) (record-bytes i) (record-long i h)

  within : old_used old ≤ n
  unfolding old_used
  within = omega arith

  -- ---- after the first k orders

  pub record Restored (k : ℕ) (t : List ℕ) : Type 0 where
    pub long : length t ≡ table_size n
    pub head : head_bytes t ≡ renewed old
    pub records : (i : ℕ) → i < n → record_bytes t i ≡ record_bytes old i
    pub agree : Agree t k

  none : Restored 0 (carried old)
  none =
      record {
        long = carried-long old ok.size;
        head = head-there (carried old) (head-fits (carried old) (carried-size old ok.size)) ∙ carried-head old ok.size;
        records = carried-record old ok.size;
        agree = carried-agrees old ok.size;
      }

  module _ (k : ℕ) (next : k < old_used old) (t : List ℕ) (r : Restored k t) where
    abbrev u : List ℕ
    u = store_order t k (order_at old k)

    all : records_in t ≡ n
    all = records-told t n r.long

    there : HasRecord t k
    there = omega (arith, all, within)

    w : WholeOrder (order_at old k)
    w = whole k (omega (arith, within))

    kept : (i : ℕ) → i < n → record_bytes u i ≡ record_bytes old i
    kept i h =
        elim (ℕ_discrete i k) [
          | yes e ↦ ap (record_bytes u) e ∙ order-bytes t k (order_at old k) there w ∙ again k (omega (arith, within)) ∙ ap (record_bytes old) (sym e)
          | no d ↦ others-stay t k (order_at old k) there w i (omega (arith, all)) d ∙ r.records i h
        ]

    small : (j : ℕ) → j < suc k → open_at u j ≤ most_shares
    unfolding order_at
    small j h =
        let sound : record_sound (record_bytes old j) ≡ true = ok.records j (omega arith) in
        let most = open-most (record_bytes old j) (of-record (record_bytes old j) sound) in
        subst (λ (s : List ℕ). (open_of (order_of s)).0 ≤ most_shares) (sym (kept j (omega (arith, within)))) most

    one_more : Restored (suc k) u
    one_more =
        record {
          long = order-length t k (order_at old k) there w ∙ r.long;
          head = order-head t k (order_at old k) there w ∙ r.head;
          records = kept;
          agree =
              store-agrees t k (order_at old k) there w k (suc k) (omega (arith, there)) r.agree (inr (refl, omega arith)) (omega (arith, within, ok.size.most))
              (λ j l. subst (λ (x : List ℕ). open_at x j ≤ most_shares) (order-stored t k (order_at old k) there) (small j l));
        }

  pub restored : (k : ℕ) → k ≤ old_used old → Restored k (with_orders old k (carried old))
  unfolding with_orders
  restored zero h = none
  restored (suc k) h = one_more k (omega arith) (with_orders old k (carried old)) (restored k (omega arith))
