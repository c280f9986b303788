-- Which records a done entry leaves: the changed order in its own, the added one behind the used ones, and every other as it was. Seen are
-- what of an order chains are followed by, and its counts; they fit their widths, so storing wraps none of them. Assumes nothing.
use Rattle.octets.proofs.Proving.{Bool, List, ◌+◌, ◌-◌, ◌<◌, ◌∙◌, ◌≡◌, ◌≢◌, ◌≤◌, ◌⊎◌, ap, arith, false, inl, inr, length, refl, subst, sym, true, ℕ, ℕ_discrete}
use Rattle.answers.specs.Answer.{is_done}
use Rattle.wire.specs.Letters.{rejected_token}
use Rattle.wire.specs.Shares.{total}
use Rattle.header.specs.Limits.{header_size}
use Rattle.orders.specs.Limits.{most_shares}
use Rattle.orders.specs.Counts.{gone, new_counts}
use Rattle.orders.specs.Order.{order_of, no_order, rejected_order, is_used}
use Rattle.orders.proofs.Standing.{Live, Dead, OrderGood}
use Rattle.table.specs.Table.{HasRecord, record_bytes, header, order_at, sound, store_order}
use Rattle.table.proofs.Soundness.{head-fits}
use Rattle.table.proofs.Stored as Stored
use Rattle.table.proofs.Stored.{order-read-back, others-stay, header-read-back, records-stay}
use Rattle.tape.specs.Entries.{stamp_of}
use Rattle.rules.specs.Plan.{answer_of, plan_of}
use Rattle.host.specs.Step.{Books, one_if, store_if, header_after, committed, comes_to}
use Rattle.laws.proofs.Types.{Decision, Plan, Order, Header}
use Rattle.laws.proofs.Shapes.{Changed, Change, unchanged, changed, change-of, addition-of}
use Rattle.laws.proofs.Standing.{standing-used}
use Rattle.laws.proofs.Given.{from_is, live-there, none-unused}
use Rattle.laws.proofs.Clipped.{clip-same, clipped, counts-stay, stored-clipped, whole-clipped}
use Rattle.laws.proofs.Sounds.{Fit, S, P, p, o, place, one, two, kept₁, kept₂, after, whole, changed-fit, added-fit, there-in-one, K}

-- what a chain is followed by, and what is counted
pub record Face : Type 0 where
  pub state : ℕ
  pub token : List ℕ
  pub liable : ℕ
  pub executed : ℕ
  pub matched : ℕ
  pub previous : List ℕ

-- what is open of it
abbrev pub open_in : Face → ℕ
open_in f = f.liable - (f.executed + f.matched)

abbrev pub face : Order → Face
face o =
    record {
      state = o.state;
      token = o.token;
      liable = o.shares.liable.0;
      executed = o.shares.executed.0;
      matched = o.shares.matched.0;
      previous = o.details.previous;
    }

-- of a record's bytes
abbrev face_of : List ℕ → Face
face_of r = face (order_of r)

abbrev pub face_at : List ℕ → ℕ → Face
face_at t i = face (order_at t i)

-- ---- one order stored

face-clipped : (o : Order) → OrderGood o → face (clipped o) ≡ face o
unfolding clipped gone rejected_order new_counts
face-clipped o good = by good.standing
  where
    fits : o.state < 256 → (gone o.shares).0 ≤ o.shares.liable.0 → o.shares.liable.0 ≤ most_shares → face (clipped o) ≡ face o
    fits s within most = rw (clip-same 1 o.state (omega arith), counts-stay o.shares (omega arith) (omega arith) most)

    by : Live o ⊎ (Dead o ⊎ (o ≡ rejected_order o.token)) → face (clipped o) ≡ face o
    by (inl l) = fits (omega (arith, l.0)) (omega (arith, l.1)) l.2
    by (inr (inl d)) = fits (omega (arith, d.0)) (omega (arith, d.1)) d.2
    by (inr (inr r)) =
        let state : o.state ≡ rejected_token = ap (λ (q : Order). q.state) r in
        let none : o.shares ≡ new_counts (total 0) = ap (λ (q : Order). q.shares) r in
        fits (omega (arith, state)) (rw none (omega arith)) (rw none (omega arith))

module _ (t : List ℕ) (i : ℕ) (o : Order) (there : HasRecord t i) (fit : Fit o) where
  pub stored-face : face_at (store_order t i o) i ≡ face o
  stored-face =
      ap (λ (u : List ℕ). face_at u i) (sym (stored-clipped t i o))
      ∙ ap face (order-read-back t i (clipped o) there (whole-clipped o fit.shaped))
      ∙ face-clipped o fit.good

  pub other-bytes : (j : ℕ) → HasRecord t j → j ≢ i → record_bytes (store_order t i o) j ≡ record_bytes t j
  other-bytes j there' apart =
      ap (λ (u : List ℕ). record_bytes u j) (sym (stored-clipped t i o))
      ∙ others-stay t i (clipped o) there (whole-clipped o fit.shaped) j there' apart

-- ---- a plan written down

module _ (books : Books) (s : List ℕ) (ok : sound books.table ≡ true) (done : is_done (answer_of (comes_to books s)) ≡ true) where
  abbrev t : List ℕ
  t = books.table

  abbrev plan : Plan
  plan = p books s ok done

  abbrev named : Order
  named = o books s ok done

  abbrev mid : List ℕ
  mid = one books s ok done

  abbrev end : List ℕ
  end = two books s ok done

  abbrev used : ℕ
  used = (header t).used

  abbrev at : ℕ
  at = place books s ok done

  -- the table afterwards
  abbrev pub left : List ℕ
  left = committed t at (stamp_of s) plan

  pub written : committed t at (stamp_of s) (plan_of (comes_to books s)) ≡ left
  written = ap (λ (d : Decision). committed t at (stamp_of s) (plan_of d)) (P books s ok done).is

  long : header_size ≤ length end
  long = omega (arith, (kept₂ books s ok done).long, head-fits t (S books s ok done).size)

  -- a used record lies in the table, and still does after the first store
  there : (i : ℕ) → i < used → HasRecord t i
  there i l = omega (arith, l, (S books s ok done).head.used)

  there-still : (i : ℕ) → i < used → HasRecord mid i
  there-still i l = subst (λ (n : ℕ). i < n) (sym (Stored.same-records t mid (kept₁ books s ok done).long)) (there i l)

  pub left-header : header left ≡ header_after (header t) (stamp_of s) plan
  unfolding committed
  left-header = header-read-back end (after books s ok done) long (whole books s ok done)

  pub left-used : (header left).used ≡ used + one_if (is_used plan.added)
  unfolding header_after
  left-used = ap (λ (q : Header). q.used) left-header

  left-bytes : (i : ℕ) → record_bytes left i ≡ record_bytes end i
  unfolding committed
  left-bytes i = records-stay end (after books s ok done) long (whole books s ok done) i

  -- the named order's record is the only one that the first store touches
  pub changed-face : is_used plan.changed ≡ true → face_at mid at ≡ face plan.changed
  unfolding store_if
  changed-face u =
      let f = changed-fit books s ok done (change-of (K books s ok done).1.1.shape) u in
      rw u (stored-face t at plan.changed f.1 f.0)

  unchanged-record : (i : ℕ) → i < used → i ≢ at → record_bytes mid i ≡ record_bytes t i
  unfolding store_if
  unchanged-record i l apart = by (is_used plan.changed) refl
    where
      by : (b : Bool) → is_used plan.changed ≡ b → record_bytes mid i ≡ record_bytes t i
      by true u =
          let f = changed-fit books s ok done (change-of (K books s ok done).1.1.shape) u in
          rw u (other-bytes t at plan.changed f.1 f.0 i (there i l) apart)
      by false u = rw u

  unchanged-records : is_used plan.changed ≡ false → (i : ℕ) → record_bytes mid i ≡ record_bytes t i
  unfolding store_if
  unchanged-records u i = rw u

  pub unchanged-face : (i : ℕ) → i < used → i ≢ at → face_at mid i ≡ face_at t i
  unfolding order_at
  unchanged-face i l apart = ap face_of (unchanged-record i l apart)

  pub unchanged-faces : is_used plan.changed ≡ false → (i : ℕ) → face_at mid i ≡ face_at t i
  unfolding order_at
  unchanged-faces u i = ap face_of (unchanged-records u i)

  -- and the one behind the used ones the only one that the second touches
  fit : is_used plan.added ≡ true → Fit plan.added
  fit u = added-fit plan.added (K books s ok done).1.0 (addition-of (K books s ok done).1.1.shape) u

  pub added-face : is_used plan.added ≡ true → face_at left used ≡ face plan.added
  unfolding store_if order_at
  added-face u = ap face_of (left-bytes used) ∙ rw u (stored-face mid used plan.added (there-in-one books s ok done u) (fit u))

  earlier-record : (i : ℕ) → i < used → record_bytes left i ≡ record_bytes mid i
  unfolding store_if
  earlier-record i l = left-bytes i ∙ by (is_used plan.added) refl
    where
      by : (b : Bool) → is_used plan.added ≡ b → record_bytes end i ≡ record_bytes mid i
      by true u = rw u (other-bytes mid used plan.added (there-in-one books s ok done u) (fit u) i (there-still i l) (λ e. omega (arith, e)))
      by false u = rw u

  pub earlier-face : (i : ℕ) → i < used → face_at left i ≡ face_at mid i
  unfolding order_at
  earlier-face i l = ap face_of (earlier-record i l)

  -- every byte of another record is as it was, and where no order changes, of every record
  pub other-record : (i : ℕ) → i < used → i ≢ at → record_bytes left i ≡ record_bytes t i
  other-record i l apart = earlier-record i l ∙ unchanged-record i l apart

  pub same-records : plan.changed ≡ no_order → (i : ℕ) → i < used → record_bytes left i ≡ record_bytes t i
  same-records e i l = earlier-record i l ∙ unchanged-records (ap is_used e ∙ none-unused) i

  -- so what a done entry keeps of the order that it changes, from its face before to its face after, it keeps of every record
  pub each-record : (R : Face → Face → Type 0) → ((f : Face) → R f f) → (Changed named plan.notice plan.changed → R (face named) (face plan.changed))
      → (i : ℕ) → i < used → R (face_at t i) (face_at left i)
  each-record R same moved i l = subst (R (face_at t i)) (sym (earlier-face i l)) (by (change-of (K books s ok done).1.1.shape))
    where
      by : Change named plan.notice plan.changed → R (face_at t i) (face_at mid i)
      by (unchanged e) = subst (R (face_at t i)) (sym (unchanged-faces (ap is_used e ∙ none-unused) i)) (same (face_at t i))
      by (changed c) = elim (ℕ_discrete i at) [
        | yes e ↦
            rw e
            (subst (R (face_at t at)) (sym (changed-face (standing-used _ c.standing)))
            (subst (λ (q : Order). R (face q) (face plan.changed)) (from_is t at (live-there t at c.alive)) (moved c)))
        | no e ↦ subst (R (face_at t i)) (sym (unchanged-face i l e)) (same (face_at t i))
      ]
