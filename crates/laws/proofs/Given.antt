-- What a sound table gives the rules: orders that are sane, texts of their widths, a header that holds. Assumes nothing.
use Rattle.octets.proofs.Proving.{Bool, List, ◌*◌, ◌+◌, ◌<◌, ◌∙◌, ◌≡◌, ◌≤◌, ◌⊎◌, ap, arith, eqb-true, false, inl, inr, le-ltb, length, lt-ltb, ltb, ltb-true, refl, sym, true, ℕ}
use Rattle.octets.specs.Choice.{pick}
use Rattle.octets.specs.Bytes.{zeros, number_of, number_from}
use Rattle.octets.proofs.Laws.{length_part}
use Rattle.wire.specs.Letters.{live, dead, rejected_token}
use Rattle.wire.proofs.NoneBad.{legal_token}
use Rattle.header.specs.Limits.{header_size, sum_place}
use Rattle.header.specs.Header.{header_of}
use Rattle.orders.specs.Limits.{record_size}
use Rattle.orders.specs.Order.{order_of, no_order, is_live, is_used}
use Rattle.orders.proofs.Standing.{Live, Dead, Rejected, RecordGood}
use Rattle.table.specs.Table.{HasRecord, record_bytes, record_place, head_bytes, header, used_in, order_at, order_from}
use Rattle.table.proofs.Soundness.{Sound, head-fits}
use Rattle.table.proofs.Stored.{record-fits, head-there}
use Rattle.laws.proofs.Types.{Order}
use Rattle.laws.proofs.Shapes.{Shaped}
use Rattle.laws.proofs.Rules.{Sane, HeaderHolds}

-- ---- an order of 80 bytes, and none

-- 80 bytes give texts of their widths
shaped_of : (s : List ℕ) → length s ≡ record_size → Shaped (order_of s)
unfolding order_of
shaped_of s e =
    record {
      token = length_part s 1 14 (omega (arith, e));
      stock = length_part s 28 8 (omega (arith, e));
      firm = length_part s 44 4 (omega (arith, e));
      previous = length_part s 65 14 (omega (arith, e));
    }

pub shaped-none : Shaped no_order
unfolding no_order
shaped-none = shaped_of (zeros record_size) refl

pub none-unused : is_used no_order ≡ false
unfolding is_used no_order order_of number_of number_from
none-unused = refl

not_none : is_live no_order ≡ true → ⊥
unfolding is_live no_order order_of number_of number_from
not_none alive = let z : ◌≡◌ {A = ℕ} 0 live = eqb-true _ _ alive in omega (arith, z)

-- what is live of a good record has something open
lives : (s : List ℕ) → RecordGood s → is_live (order_of s) ≡ true → Live (order_of s)
unfolding is_live
lives s g alive = by g.standing
  where
    state : (order_of s).state ≡ live
    state = eqb-true _ _ alive

    by : Live (order_of s) ⊎ (Dead (order_of s) ⊎ Rejected s (order_of s)) → Live (order_of s)
    by (inl l) = l
    by (inr (inl d)) = absurd (let z : ◌≡◌ {A = ℕ} live dead = sym state ∙ d.0 in omega (arith, z))
    by (inr (inr r)) = absurd (let z : ◌≡◌ {A = ℕ} live rejected_token = sym state ∙ r.0 in omega (arith, z))

-- ---- an order found at a place, or none

module _ (t : List ℕ) (i : ℕ) where
  pub from_is : i < used_in t → order_from t i ≡ order_at t i
  unfolding order_from
  from_is h = rw (lt-ltb _ _ h)

  pub from-none : used_in t ≤ i → order_from t i ≡ no_order
  unfolding order_from
  from-none h = rw (le-ltb _ _ h)

  -- what is live, and what is used, stands in a used record
  pub live-there : is_live (order_from t i) ≡ true → i < used_in t
  unfolding order_from
  live-there alive = by (ltb i (used_in t)) refl alive
    where
      by : (b : Bool) → ltb i (used_in t) ≡ b → is_live (pick b (order_at t i) no_order) ≡ true → i < used_in t
      by true e alive = ltb-true _ _ e
      by false e alive = absurd (not_none alive)

module _ (t : List ℕ) (ok : Sound t) where
  -- a used record lies in the table
  pub used-there : (i : ℕ) → i < used_in t → HasRecord t i
  used-there i h = omega (arith, h, ok.used, ok.head.used)

  pub sane-from : (i : ℕ) → Sane (order_from t i)
  unfolding order_from order_at record_bytes record_place
  sane-from i = by (ltb i (used_in t)) refl
    where
      by : (b : Bool) → ltb i (used_in t) ≡ b → Sane (pick b (order_of (record_bytes t i)) no_order)
      by true e =
          let h = ltb-true i (used_in t) e in
          record {
            lives = lives (record_bytes t i) (ok.records i (omega (arith, h, ok.used)));
            shaped = shaped_of (record_bytes t i) (length_part t (header_size + record_size * i) record_size (record-fits t i (used-there i h)));
          }
      by false e = record { lives = λ alive. absurd (not_none alive); shaped = shaped-none }

  pub token-legal : (i : ℕ) → is_live (order_from t i) ≡ true → legal_token (order_from t i).token ≡ true
  unfolding order_at
  token-legal i alive =
      let h = live-there t i alive in
      ap (λ (q : Order). legal_token q.token) (from_is t i h) ∙ (ok.records i (omega (arith, h, ok.used))).token

  pub holds : HeaderHolds (header t)
  unfolding header header_of
  holds =
      record {
        threshold = ok.head.highest-threshold;
        firms = length_part (head_bytes t) 28 32 (omega (arith, length-head));
      }
    where
      length-head : length (head_bytes t) ≡ sum_place
      length-head =
          let there = head-fits t ok.size in
          ap length (head-there t there) ∙ length_part t 0 sum_place (omega arith)
