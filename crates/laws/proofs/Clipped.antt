-- What bytes keep of an order whatever its numbers are: each number wraps at its width. So an order whose texts have their widths is stored
-- and judged without a look at the fields that nobody judges. Assumes nothing.
use Rattle.octets.proofs.Proving.{List, List·get_d-append, [], ◌%◌, ◌++◌, ◌+◌, ◌-◌, ◌/◌, ◌<◌, ◌^◌, ◌∙◌, ◌∷◌, ◌≡◌, ◌≤◌, ◌⊎◌, ap, arith, dec_lt, get_or, get_or-append-add, inl, inr, length, lit<, ltb, mod-lt, refl, subst, suc, sym, take, take_all, zero, ℕ}
use Rattle.octets.specs.Choice.{pick}
use Rattle.octets.specs.Bytes.{digits, number_of, number_from}
use Rattle.octets.proofs.Laws.{length_digits, number_digits, digits_number, number_bound}
use Rattle.wire.specs.Letters.{live, dead}
use Rattle.wire.specs.Shares.{total, removed}
use Rattle.orders.specs.Limits.{most_shares}
use Rattle.orders.specs.Counts.{gone, new_counts}
use Rattle.orders.specs.declared.counts.Counts.{Counts}
use Rattle.orders.specs.Order.{order_of, order_bytes, no_order, rejected_order}
use Rattle.table.specs.Table.{records_in, store_record, store_order}
use Rattle.orders.specs.Whole.{WholeOrder}
use Rattle.orders.proofs.Standing.{Live, Dead, OrderGood}
use Rattle.laws.proofs.Types.{Order}
use Rattle.laws.proofs.Shapes.{Shaped}

-- ---- a number as its lowest n bytes spell it

unfoldable pub clip : ℕ → ℕ → ℕ
clip n v = number_of (digits n v)

one_byte : (x n : ℕ) → x < 256 → get_or (x ∷ []) n 0 < 256
one_byte x zero h = h
one_byte x (suc n) h = lit< tt

behind : (xs : List ℕ) (x k : ℕ) → x < 256 → (k < length xs → ⊥) → get_or (xs ++ (x ∷ [])) k 0 < 256
behind xs x k b h =
    let e : length xs + (k - length xs) ≡ k = omega arith in
    subst (λ (j : ℕ). get_or (xs ++ (x ∷ [])) j 0 < 256) e (rw (get_or-append-add xs (x ∷ []) (k - length xs) 0) (one_byte x (k - length xs) b))

digits-bytes : (n v k : ℕ) → get_or (digits n v) k 0 < 256
unfolding digits
digits-bytes zero v k = lit< tt
digits-bytes (suc n) v k =
    elim (dec_lt k (length (digits n (v / 256)))) [
      | yes h ↦ rw (List·get_d-append (digits n (v / 256)) ((v % 256) ∷ []) 0 k h) (digits-bytes n (v / 256) k)
      | no h ↦ behind (digits n (v / 256)) (v % 256) k (mod-lt v {m = 256} (lit< tt)) h
    ]

module _ (n v : ℕ) where
  all_digits : take n (digits n v) ≡ digits n v
  all_digits = take_all n (digits n v) (omega (arith, length_digits n v))

  pub clip-digits : digits n (clip n v) ≡ digits n v
  unfolding clip
  clip-digits =
      ap (λ (l : List ℕ). digits n (number_of l)) (sym all_digits)
      ∙ digits_number (digits n v) (digits-bytes n v) n (omega (arith, length_digits n v))
      ∙ all_digits

  pub clip-small : clip n v < 256 ^ n
  unfolding clip
  clip-small =
      subst (λ (l : List ℕ). number_of l < 256 ^ n) all_digits
      (number_bound (digits n v) (digits-bytes n v) 0 n (omega (arith, length_digits n v)))

  pub clip-same : v < 256 ^ n → clip n v ≡ v
  unfolding clip number_of
  clip-same h = number_digits n v h

-- ---- an order

unfoldable pub clipped_counts : Counts → Counts
clipped_counts s =
    record {
      liable = total (clip 4 s.liable.0);
      executed = total (clip 4 s.executed.0);
      matched = total (clip 4 s.matched.0);
    }

unfoldable pub clipped : Order → Order
clipped o =
    let k = o.details.kept in
    let t = o.details.terms in
    record {
      state = clip 1 o.state;
      token = o.token;
      side = clip 1 o.side;
      shares = clipped_counts o.shares;
      flags = clip 1 o.flags;
      details = record {
        kept = record { stock = k.stock; firm = k.firm; capacity = clip 1 k.capacity; cross = clip 1 k.cross };
        terms = record {
          price = clip 4 t.price;
          time = clip 4 t.time;
          display = clip 1 t.display;
          sweep = clip 1 t.sweep;
          minimum = removed (clip 4 t.minimum.0);
        };
        reference = clip 8 o.details.reference;
        previous = o.details.previous;
        spare = clip 1 o.details.spare;
      };
    }

-- the bytes are the same
pub bytes-clipped : (o : Order) → order_bytes (clipped o) ≡ order_bytes o
unfolding order_bytes clipped clipped_counts
bytes-clipped o = simp clip-digits

pub stored-clipped : (t : List ℕ) (i : ℕ) (o : Order) → store_order t i (clipped o) ≡ store_order t i o
unfolding store_order
stored-clipped t i o = ap (λ (b : List ℕ). pick (ltb i (records_in t)) (store_record t i b) t) (bytes-clipped o)

-- every number fits
pub whole-clipped : (o : Order) → Shaped o → WholeOrder (clipped o)
unfolding clipped clipped_counts
whole-clipped o s =
    record {
      state = clip-small 1 _;
      token = s.token;
      side = clip-small 1 _;
      shares = record { liable = clip-small 4 _; executed = clip-small 4 _; matched = clip-small 4 _ };
      flags = clip-small 1 _;
      details = record {
        kept = record { stock = s.stock; firm = s.firm; capacity = clip-small 1 _; cross = clip-small 1 _ };
        terms = record { price = clip-small 4 _; time = clip-small 4 _; display = clip-small 1 _; sweep = clip-small 1 _; minimum = clip-small 4 _ };
        reference = clip-small 8 _;
        previous = s.previous;
        spare = clip-small 1 _;
      };
    }

-- and the numbers that are judged are what they were
pub counts-stay : (s : Counts) → s.executed.0 ≤ most_shares → s.matched.0 ≤ most_shares → s.liable.0 ≤ most_shares → clipped_counts s ≡ s
unfolding clipped_counts
counts-stay s e m l =
    let a = clip-same 4 s.liable.0 (omega arith) in
    let b = clip-same 4 s.executed.0 (omega arith) in
    let c = clip-same 4 s.matched.0 (omega arith) in
    rw (a, b, c)

rejected-clipped : (token : List ℕ) → clipped (rejected_order token) ≡ rejected_order token
unfolding clipped clipped_counts clip rejected_order new_counts no_order order_of digits number_of number_from
rejected-clipped token = refl

pub good-clipped : (o : Order) → OrderGood o → OrderGood (clipped o)
unfolding clipped gone
good-clipped o g = record { token = g.token; standing = by g.standing }
  where
    by : Live o ⊎ (Dead o ⊎ (o ≡ rejected_order o.token)) → Live (clipped o) ⊎ (Dead (clipped o) ⊎ (clipped o ≡ rejected_order o.token))
    by (inl l) =
        let c = counts-stay o.shares (omega (arith, l.1, l.2)) (omega (arith, l.1, l.2)) l.2 in
        inl (ap (clip 1) l.0 ∙ clip-same 1 live (lit< tt), rw c l.1, rw c l.2)
    by (inr (inl d)) =
        let c = counts-stay o.shares (omega (arith, d.1, d.2)) (omega (arith, d.1, d.2)) d.2 in
        inr (inl (ap (clip 1) d.0 ∙ clip-same 1 dead (lit< tt), rw c d.1, rw c d.2))
    by (inr (inr r)) = inr (inr (ap clipped r ∙ rejected-clipped o.token))
