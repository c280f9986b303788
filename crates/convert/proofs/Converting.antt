-- What is promised of a table that was converted: it is sound, it means the same, and every byte of it is said. Assumes nothing.
use Rattle.octets.proofs.Proving.{List, ◌&&◌, ◌*◌, ◌++◌, ◌+◌, ◌<◌, ◌∙◌, ◌≡◌, ◌≤◌, ap, ap₂, arith, dec_lt, drop, drop-drop, le-ltb, length, length-drop, ltb, refl, subst, suc, sym, take, take-add, take_all, true, zero, ℕ}
use Rattle.octets.specs.Choice.{first_below}
use Rattle.octets.specs.Bytes.{part, same}
use Rattle.wire.specs.Legal.{Bytes}
use Rattle.header.specs.Limits.{header_size}
use Rattle.header.specs.Header.{header_of}
use Rattle.orders.specs.Limits.{record_size}
use Rattle.orders.specs.Order.{order_of, is_live, open_of}
use Rattle.orders.specs.declared.order.Order.{Order}
use Rattle.orders.specs.Sound.{record_sound}
use Rattle.table.specs.Table.{records_in, record_place, record_bytes, header, used_in, order_at, is_marked, open_at, sound, has_token, place_of}
use Rattle.table.proofs.Stored.{head-there}
use Rattle.table.proofs.Sums.{sum_same}
use Rattle.table.proofs.Eight.{first_alike}
use Rattle.table.proofs.Soundness.{Sized, same_size, head-fits, all-used, to-sound}
use Rattle.convert.specs.Old.{old_records, old_header, old_used, old_place_of}
use Rattle.convert.specs.Convert.{carried, with_orders}
use Rattle.convert.specs.Converted.{MeansTheSame, EveryByte, Converts, Promised}
use Rattle.convert.proofs.Former.{OldSound, renewed-header}
use Rattle.convert.proofs.Answered.{was-sound, left-done, left-else}
use Rattle.convert.proofs.Carried.{records-told, carried-long, carried-size}
use Rattle.convert.proofs.Restored.{Restored, restored}

-- ---- what agrees piece by piece

-- records that agree one by one agree in a row
rows : (u v : List ℕ) (n : ℕ) → ((i : ℕ) → i < n → record_bytes u i ≡ record_bytes v i) → part u header_size (record_size * n) ≡ part v header_size (record_size * n)
unfolding record_bytes record_place
rows u v zero agree = refl
rows u v (suc n) agree =
    let next : record_size * suc n ≡ record_size * n + record_size = omega arith in
    split u next ∙ ap₂ ◌++◌ (rows u v n (λ i h. agree i (omega arith))) (agree n (omega arith)) ∙ sym (split v next)
  where
    split : (l : List ℕ) {m : ℕ} → m ≡ record_size * n + record_size → part l header_size m ≡ part l header_size (record_size * n) ++ part l (header_size + record_size * n) record_size
    split l e =
        ap (part l header_size) e ∙ take-add (record_size * n) record_size (drop header_size l)
        ∙ ap (λ (k : List ℕ). part l header_size (record_size * n) ++ take record_size k) (drop-drop (record_size * n) header_size l)

-- ---- the new table

module _ (old : List ℕ) (bytes : Bytes old) (ok : OldSound old) where
  abbrev n : ℕ
  n = old_records old

  abbrev new : List ℕ
  new = with_orders old (old_used old) (carried old)

  r : Restored old bytes ok (old_used old) new
  r = restored old bytes ok (old_used old) (omega arith)

  all : records_in new ≡ n
  all = records-told new n r.long

  sized : Sized new
  sized = same_size (carried old) new (r.long ∙ sym (carried-long old ok.size)) (carried-size old ok.size)

  same-header : header new ≡ old_header old
  unfolding header
  same-header = ap header_of r.head ∙ renewed-header old (omega (arith, ok.size.long))

  same-order : (i : ℕ) → i < n → order_at new i ≡ order_at old i
  unfolding order_at
  same-order i h = ap order_of (r.records i h)

  same-used : (header new).used ≡ old_used old
  same-used = ap (λ h. h.used) same-header ∙ sym ok.used

  within : old_used old ≤ n
  within = omega (arith, ok.used, ok.head.used)

  used-is : used_in new ≡ old_used old
  used-is = all-used new (omega (arith, same-used, all, within)) ∙ same-used

  -- ---- it is sound

  new-sound : sound new ≡ true
  new-sound =
      to-sound new sized (rw (same-header, all) ok.head) (rw r.head ok.form)
      (λ i l. ap record_sound (r.records i (omega (arith, l, same-used, within))) ∙ ok.records i (omega (arith, l, same-used)))
      (rw same-used r.agree)

  -- ---- it means the same

  new-means : MeansTheSame old new
  unfolding place_of old_place_of has_token
  new-means =
      record {
        header = same-header;
        used = used-is;
        orders = same-order;
        places = λ token.
            ap (λ (k : ℕ). first_below k (has_token new token)) used-is
            ∙ first_alike (has_token new token) (has_token old token) (old_used old) (λ j l. ap (λ (o : Order). same o.token token) (same-order j (omega (arith, l, within))));
      }

  -- ---- every byte

  new-bits : (i : ℕ) → is_marked new i ≡ (ltb i (old_used old) && is_live (order_at old i))
  new-bits i =
      r.agree.bits i
      ∙ elim (dec_lt i (old_used old)) [
        | yes l ↦ ap (λ (o : Order). ltb i (old_used old) && is_live o) (same-order i (omega (arith, l, within)))
        | no g ↦ rw (le-ltb i (old_used old) (omega arith))
      ]

  new-bytes : EveryByte old new
  new-bytes =
      record {
        long = r.long;
        head = sym (head-there new (head-fits new sized)) ∙ r.head;
        sum = r.agree.sum ∙ sum_same (open_at new) (open_at old) (old_used old) (λ k l. ap (λ (o : Order). (open_of o).0) (same-order k (omega (arith, l, within))));
        records = rows new old n r.records ∙ take_all (record_size * n) (drop header_size old) (omega (arith, length-drop header_size old, ok.size.long));
        bits = new-bits;
      }

-- ---- what is promised

pub promised : (old t : List ℕ) → Bytes old → Promised old t
promised old t bytes =
    record {
      done = λ e.
          let ok = was-sound old (length t) e in
          subst (Converts old) (sym (left-done old t e)) record { sound = new-sound old bytes ok; means = new-means old bytes ok; bytes = new-bytes old bytes ok };
      refused = left-else old t;
    }
