-- What a sound record is, sentence by sentence of the paper, and back; and which orders are spelled as sound records. Assumes nothing.
use Rattle.octets.proofs.Proving.{Bool, List, ◌&&◌, ◌+◌, ◌<◌, ◌∙◌, ◌≡◌, ◌≤◌, ◌⊎◌, ap, arith, drop, drop_at, eq-eqb, eqb, eqb-true, false, false≢true, inl, inr, le-leb, leb, leb-true, length, lt-ltb, ltb, ltb-true, refl, sub_self, subst, sym, true, ℕ}
use Rattle.octets.specs.Bytes.{all_are, digits, number_of, number_from}
use Rattle.octets.proofs.Below.{both}
use Rattle.octets.specs.Choice.{◌⇒◌⨾◌}
use Rattle.wire.specs.Shares.{removed}
use Rattle.wire.specs.Letters.{live, dead, rejected_token}
use Rattle.wire.specs.Limits.{token_size}
use Rattle.wire.specs.Layout.{no_bad_place}
use Rattle.wire.proofs.NoneBad.{legal_token}
use Rattle.orders.specs.Limits.{most_shares}
use Rattle.orders.specs.Counts.{gone, open_shares, new_counts}
use Rattle.orders.specs.Order.{Order, record_layout, order_of, order_bytes, no_order, is_live, open_of, rejected_order}
use Rattle.std.specs.Prelude.{Some}
use Rattle.std.specs.Bool.{then_some}
use Rattle.orders.specs.Sound.{liable_good, state_sound, record_sound, state_verdict}
use Rattle.orders.specs.Whole.{WholeOrder}
use Rattle.orders.proofs.Judged.{record-token}
use Rattle.orders.proofs.Spelled.{order-again}

-- ---- a used record

abbrev pub Live : Order → Type 0
Live o = (o.state ≡ live) × ((gone o.shares).0 < o.shares.liable.0) × (o.shares.liable.0 ≤ most_shares)

abbrev pub Dead : Order → Type 0
Dead o = (o.state ≡ dead) × ((gone o.shares).0 ≡ o.shares.liable.0) × (o.shares.liable.0 ≤ most_shares)

-- with bytes 15 to 79 zero
abbrev pub Rejected : List ℕ → Order → Type 0
Rejected s o = (o.state ≡ rejected_token) × (all_are 0 (drop (1 + token_size) s) ≡ true)

module _ (s : List ℕ) (o : Order) where
  pub of-state : state_sound s o ≡ true → Live o ⊎ (Dead o ⊎ Rejected s o)
  unfolding state_sound liable_good
  of-state e = go (eqb o.state live) (eqb o.state dead) (eqb o.state rejected_token) refl refl refl e
    where
      go : (l d r : Bool) → eqb o.state live ≡ l → eqb o.state dead ≡ d → eqb o.state rejected_token ≡ r
          → (l ⇒ (ltb (gone o.shares).0 o.shares.liable.0 && leb o.shares.liable.0 most_shares)
          ⨾ d ⇒ (eqb (gone o.shares).0 o.shares.liable.0 && leb o.shares.liable.0 most_shares)
          ⨾ r ⇒ all_are 0 (drop (1 + token_size) s) ⨾ false) ≡ true
          → Live o ⊎ (Dead o ⊎ Rejected s o)
      go true d r el ed er e =
          let b = both (ltb (gone o.shares).0 o.shares.liable.0) _ e in
          inl (eqb-true _ _ el, ltb-true _ _ b.0, leb-true _ _ b.1)
      go false true r el ed er e =
          let b = both (eqb (gone o.shares).0 o.shares.liable.0) _ e in
          inr (inl (eqb-true _ _ ed, eqb-true _ _ b.0, leb-true _ _ b.1))
      go false false true el ed er e = inr (inr (eqb-true _ _ er, e))
      go false false false el ed er e = absurd (false≢true e)

  pub to-state : Live o ⊎ (Dead o ⊎ Rejected s o) → state_sound s o ≡ true
  unfolding state_sound liable_good
  to-state (inl l) = rw (l.0, lt-ltb _ _ l.1, le-leb _ _ l.2)
  to-state (inr (inl d)) = rw (d.0, eq-eqb _ _ d.1, le-leb _ _ d.2)
  to-state (inr (inr r)) = rw r.0 r.1

pub record RecordGood (s : List ℕ) : Type 0 where
  pub token : legal_token (order_of s).token ≡ true
  pub standing : Live (order_of s) ⊎ (Dead (order_of s) ⊎ Rejected s (order_of s))

pub of-record : (s : List ℕ) → record_sound s ≡ true → RecordGood s
unfolding record_sound
of-record s e =
    let b = both (no_bad_place record_layout s) (state_sound s (order_of s)) e in
    record { token = sym (record-token s) ∙ b.0; standing = of-state s (order_of s) b.1 }

pub to-record : (s : List ℕ) → RecordGood s → record_sound s ≡ true
unfolding record_sound
to-record s g = rw (record-token s ∙ g.token) (to-state s (order_of s) g.standing)

-- what is counted as open of it
open-of-live : (o : Order) → o.state ≡ live → open_shares o.shares ≡ open_of o
unfolding open_of is_live
open-of-live o e = rw e

open-of-dead : (o : Order) → o.state ≡ dead → (gone o.shares).0 ≡ o.shares.liable.0 → open_shares o.shares ≡ open_of o
unfolding open_of is_live open_shares
open-of-dead o e spent = rw (e, spent, sub_self)

-- of which no more is open than an order may have
pub open-most : (s : List ℕ) → RecordGood s → (open_of (order_of s)).0 ≤ most_shares
unfolding open_of is_live open_shares
open-most s g = by g.standing
  where
    by : Live (order_of s) ⊎ (Dead (order_of s) ⊎ Rejected s (order_of s)) → (open_of (order_of s)).0 ≤ most_shares
    by (inl l) = rw l.0 (omega (arith, l.2))
    by (inr (inl d)) = rw d.0 (omega arith)
    by (inr (inr r)) = rw r.0 (omega arith)

-- ---- what judging it finds

module _ (s : List ℕ) where
  pub verdict-rejected : (b : Bool) → (order_of s).state ≡ rejected_token → b ≡ state_sound s (order_of s) → then_some b (removed 0) ≡ state_verdict s
  unfolding state_verdict open_of is_live
  verdict-rejected b e sounds = rw (← sounds, e)

  pub verdict-counted : (b : Bool) → ((order_of s).state ≡ rejected_token → ⊥) → b ≡ state_sound s (order_of s)
      → then_some b (open_shares (order_of s).shares) ≡ state_verdict s
  unfolding state_verdict
  verdict-counted false n sounds = rw (← sounds)
  verdict-counted true n sounds = rw (← sounds) (ap Some (by (of-state s (order_of s) (sym sounds))))
    where
      by : Live (order_of s) ⊎ (Dead (order_of s) ⊎ Rejected s (order_of s)) → open_shares (order_of s).shares ≡ open_of (order_of s)
      by (inl l) = open-of-live (order_of s) l.0
      by (inr (inl d)) = open-of-dead (order_of s) d.0 d.1
      by (inr (inr r)) = absurd (n r.0)

-- ---- orders

-- an order that a sound record may hold
pub record OrderGood (o : Order) : Type 0 where
  pub token : legal_token o.token ≡ true
  pub standing : Live o ⊎ (Dead o ⊎ (o ≡ rejected_order o.token))

-- a rejected token is zeros behind its token
rejected-zeros : (token : List ℕ) → length token ≡ token_size → all_are 0 (drop (1 + token_size) (order_bytes (rejected_order token))) ≡ true
unfolding order_bytes rejected_order new_counts no_order order_of number_of number_from digits all_are
rejected-zeros token e = ap (all_are 0) (drop_at token _ token_size e)

module _ (o : Order) (w : WholeOrder o) where
  standing : Live o ⊎ (Dead o ⊎ (o ≡ rejected_order o.token)) → Live o ⊎ (Dead o ⊎ Rejected (order_bytes o) o)
  unfolding rejected_order
  standing (inl l) = inl l
  standing (inr (inl d)) = inr (inl d)
  standing (inr (inr r)) =
      inr (inr (ap (λ (q : Order). q.state) r, ap (λ (q : Order). all_are 0 (drop (1 + token_size) (order_bytes q))) r ∙ rejected-zeros o.token w.token))

  pub order-sound : OrderGood o → record_sound (order_bytes o) ≡ true
  order-sound g =
      to-record (order_bytes o) record {
        token = ap (λ (q : Order). legal_token q.token) (order-again o w) ∙ g.token;
        standing = subst (λ (q : Order). Live q ⊎ (Dead q ⊎ Rejected (order_bytes o) q)) (sym (order-again o w)) (standing g.standing);
      }
