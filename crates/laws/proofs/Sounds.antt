-- A step that is done keeps a sound table sound: the named order's record, the record behind the used ones, and the header are each written
-- with something good, and nothing else is touched. Assumes nothing.
use Rattle.std.specs.Prelude.{Option, Some, None}
use Rattle.octets.proofs.Proving.{Bool, List, ◌&&◌, ◌+◌, ◌<◌, ◌^◌, ◌∙◌, ◌≡◌, ◌≢◌, ◌≤◌, ◌⊎◌, ap, arith, eqb, eqb-false, false, false≢true, inl, inr, leb, leb-false, length, refl, subst, sym, true, ℕ}
use Rattle.answers.specs.Answer.{is_done}
use Rattle.wire.specs.Letters.{live, dead}
use Rattle.wire.specs.Shares.{total}
use Rattle.wire.proofs.NoneBad.{legal_token}
use Rattle.header.specs.Limits.{end_of_references, day_closed}
use Rattle.header.specs.Whole.{WholeHeader}
use Rattle.header.proofs.Holds.{HeaderGood}
use Rattle.header.proofs.Blocked.{blocked-lt, in-byte}
use Rattle.orders.specs.Counts.{open_shares}
use Rattle.orders.specs.Order.{order_of, rejected_order, is_used}
use Rattle.orders.specs.Sound.{record_sound}
use Rattle.orders.proofs.Standing.{Live, Dead, Rejected, OrderGood, RecordGood, to-record}
use Rattle.table.specs.Table.{HasRecord, records_in, record_bytes, header, order_at, sound, store_order}
use Rattle.table.specs.Limits.{most_records}
use Rattle.table.proofs.Soundness.{Sound, same_size, of-sound}
use Rattle.table.proofs.Stored.{same-records, order-length, order-header}
use Rattle.table.proofs.Agreeing.{Agree, Grows}
use Rattle.table.proofs.Keeps.{records-after, agrees_after, order-keeps, header-keeps}
use Rattle.tape.specs.Entries.{stamp_of}
use Rattle.rules.specs.Plan.{answer_of, plan_of}
use Rattle.host.specs.Step.{Books, one_if, named_place, store_if, day_after, blocked_after, header_after, committed, no_record_free, no_reference_left, decide, comes_to}
use Rattle.laws.specs.Records.{Paper, EveryRecord}
use Rattle.laws.proofs.Types.{Decision, Plan, Order, Header, Begins, Day, Block}
use Rattle.laws.proofs.Standing.{Standing}
use Rattle.laws.proofs.Shapes.{Shaped, Change, unchanged, changed, Addition, nothing, rejected, born, Begun, change-of, addition-of}
use Rattle.laws.proofs.Clipped.{clipped, stored-clipped, whole-clipped, good-clipped}
use Rattle.laws.proofs.Given.{holds, used-there, live-there, none-unused, shaped-none, token-legal}
use Rattle.laws.proofs.Comes.{Passed, passed, stamp-legal, NewToken, Kept, named, decide-keeps}

-- ---- one order stored

-- an order may be stored: its texts have their widths, and a sound record may hold it
pub record Fit (o : Order) : Type 0 where
  pub shaped : Shaped o
  pub good : OrderGood o

module _ (t : List ℕ) (i : ℕ) (o : Order) (there : HasRecord t i) (fit : Fit o) where
  pub stored-length : length (store_order t i o) ≡ length t
  stored-length = ap length (sym (stored-clipped t i o)) ∙ order-length t i (clipped o) there (whole-clipped o fit.shaped)

  pub stored-header : header (store_order t i o) ≡ header t
  stored-header = ap header (sym (stored-clipped t i o)) ∙ order-header t i (clipped o) there (whole-clipped o fit.shaped)

  pub stored-sound : i < (header t).used → sound t ≡ true → sound (store_order t i o) ≡ true
  stored-sound used ok =
      ap sound (sym (stored-clipped t i o)) ∙ order-keeps t i (clipped o) there (whole-clipped o fit.shaped) (good-clipped o fit.good) used ok

  pub stored-records : (n : ℕ) → n ≤ records_in t → ((j : ℕ) → j < n → j ≢ i → record_sound (record_bytes t j) ≡ true)
      → (j : ℕ) → j < n → record_sound (record_bytes (store_order t i o) j) ≡ true
  stored-records n within others j l =
      ap (λ (u : List ℕ). record_sound (record_bytes u j)) (sym (stored-clipped t i o))
      ∙ records-after t i (clipped o) there (whole-clipped o fit.shaped) (good-clipped o fit.good) n within others j l

  pub stored-agrees : (n m : ℕ) → Grows n i m → n ≤ records_in t → m ≤ most_records → ((j : ℕ) → j < m → record_sound (record_bytes (store_order t i o) j) ≡ true)
      → Agree t n → Agree (store_order t i o) m
  stored-agrees n m grows within most sounds a =
      subst (λ (u : List ℕ). Agree u m) (stored-clipped t i o)
      (agrees_after t i (clipped o) there (whole-clipped o fit.shaped) (good-clipped o fit.good) n m grows within most
      (λ j l. ap (λ (u : List ℕ). record_sound (record_bytes u j)) (stored-clipped t i o) ∙ sounds j l) a)

-- ---- the orders of a plan

standing-good : (o : Order) → Standing o → (legal : legal_token o.token ≡ true) → OrderGood o
standing-good o (inl l) legal = record { token = legal; standing = inl l }
standing-good o (inr d) legal = record { token = legal; standing = inr (inl d) }

-- what is added where anything is
pub added-fit : {token : List ℕ} {o : Order} (new : Order) → NewToken token → Addition token o new → is_used new ≡ true → Fit new
unfolding rejected_order
added-fit new n (nothing e) u = absurd (false≢true (sym none-unused ∙ ap is_used (sym e) ∙ u))
added-fit new n (rejected e) u =
    subst Fit (sym e)
    (record {
      shaped = record { token = n.long; stock = shaped-none.stock; firm = shaped-none.firm; previous = shaped-none.previous };
      good = record { token = n.legal; standing = inr (inr refl) };
    })
added-fit new n (born x before b) u =
    record { shaped = b.shaped; good = standing-good new (inl b.alive) (ap legal_token b.token ∙ n.legal) }

-- ---- a plan written down

module _ (books : Books) (s : List ℕ) (ok : sound books.table ≡ true) (done : is_done (answer_of (comes_to books s)) ≡ true) where
  abbrev t : List ℕ
  t = books.table

  pub S : Sound t
  S = of-sound t ok

  pub P : Passed books s
  P = passed books s done

  abbrev pub p : Plan
  p = plan_of (decide books s)

  abbrev pub place : ℕ
  place = named_place t s

  abbrev pub o : Order
  o = named books s S P.legal

  pub K : Kept t o (decide books s)
  K = decide-keeps books s S P.legal

  pub changed-fit : Change o p.notice p.changed → is_used p.changed ≡ true → Fit p.changed × HasRecord t place × (place < (header t).used)
  changed-fit (unchanged e) u = absurd (false≢true (sym none-unused ∙ ap is_used (sym e) ∙ u))
  changed-fit (changed c) u = (
    record {
      shaped = c.shaped;
      good = standing-good p.changed c.standing (ap legal_token c.token ∙ token-legal t S place c.alive);
    },
    used-there t S place (live-there t place c.alive),
    omega (arith, live-there t place c.alive, S.used),
  )

  -- after the named order
  abbrev pub one : List ℕ
  one = store_if t place p.changed

  pub record Kept₁ : Type 0 where
    pub long : length one ≡ length t
    pub head : header one ≡ header t
    pub good : sound one ≡ true

  pub kept₁ : Kept₁
  unfolding store_if
  kept₁ = by (is_used p.changed) refl
    where
      by : (b : Bool) → is_used p.changed ≡ b → Kept₁
      by true u =
          let f = changed-fit (change-of K.1.1.shape) u in
          record {
            long = rw u (stored-length t place p.changed f.1 f.0);
            head = rw u (stored-header t place p.changed f.1 f.0);
            good = rw u (stored-sound t place p.changed f.1 f.0 f.2 ok);
          }
      by false u = record { long = rw u; head = rw u; good = rw u ok }

  abbrev pub h : Header
  h = header t

  -- a record is free where one is needed
  pub free-there : is_used p.added ≡ true → h.used < records_in t
  unfolding no_record_free
  free-there u = leb-false _ _ (ap (λ (b : Bool). b && leb (records_in t) h.used) (sym u) ∙ P.record-left)

  -- and a reference
  reference-there : p.numbered ≡ true → h.reference < end_of_references
  unfolding no_reference_left
  reference-there n =
      let other : eqb h.reference end_of_references ≡ false = ap (λ (b : Bool). b && eqb h.reference end_of_references) (sym n) ∙ P.reference-left in
      let differ = eqb-false h.reference end_of_references other in
      omega (arith, differ, S.head.highest-reference)

  -- after the added one
  abbrev pub two : List ℕ
  two = store_if one h.used p.added

  pub record Kept₂ : Type 0 where
    pub long : length two ≡ length t
    pub records : (j : ℕ) → j < h.used + one_if (is_used p.added) → record_sound (record_bytes two j) ≡ true
    pub agrees : Agree two (h.used + one_if (is_used p.added))

  pub there-in-one : is_used p.added ≡ true → HasRecord one h.used
  there-in-one u = subst (λ (n : ℕ). h.used < n) (sym (same-records t one kept₁.long)) (free-there u)

  pub kept₂ : Kept₂
  unfolding store_if
  kept₂ = by (is_used p.added) refl
    where
      one-records : (j : ℕ) → j < h.used → record_sound (record_bytes one j) ≡ true
      one-records j l =
          to-record (record_bytes one j) ((of-sound one kept₁.good).records j (subst (λ (q : Header). j < q.used) (sym kept₁.head) l))

      one-agrees : Agree one h.used
      one-agrees = subst (λ (q : Header). Agree one q.used) kept₁.head (of-sound one kept₁.good).kept

      by : (b : Bool) → is_used p.added ≡ b → Kept₂
      by true u =
          let f = added-fit p.added K.1.0 (addition-of K.1.1.shape) u in
          let there = there-in-one u in
          let records = stored-records one h.used p.added there f (h.used + 1) (omega (arith, there)) (λ j l n. one-records j (omega (arith, n))) in
          let most : h.used + 1 ≤ most_records = omega (arith, free-there u, S.size.most) in
          record {
            long = rw u (stored-length one h.used p.added there f ∙ kept₁.long);
            records = rw u records;
            agrees = rw u (stored-agrees one h.used p.added there f h.used (h.used + 1) (inr (refl, refl)) (omega (arith, there)) most records one-agrees);
          }
      by false u =
          let same : h.used ≡ h.used + 0 = omega arith in
          record { long = rw u kept₁.long; records = rw u (λ j l. one-records j (omega arith)); agrees = rw u (subst (Agree one) same one-agrees) }

  -- the header after it
  abbrev pub after : Header
  after = header_after h (stamp_of s) p

  day-good : after.day ≤ day_closed
  unfolding header_after
  day-good = by p.begins K.1.1.begins
    where
      by : (b : Option Begins) → Begun b → day_after h.day b ≤ day_closed
      by None g = S.head.day
      by (Some (Day day)) g = g
      by (Some (Block k on)) g = S.head.day

  -- no bit past the firm count
  blocked-good : after.blocked < 2 ^ h.count
  unfolding header_after
  blocked-good = by p.begins
    where
      by : (b : Option Begins) → blocked_after h b < 2 ^ h.count
      by None = S.head.blocked
      by (Some (Day day)) = S.head.blocked
      by (Some (Block k on)) = blocked-lt h k on S.head.blocked

  used-good : after.used ≤ records_in t
  unfolding header_after
  used-good = by (is_used p.added) refl
    where
      by : (b : Bool) → is_used p.added ≡ b → h.used + one_if b ≤ records_in t
      by true u = omega (arith, free-there u)
      by false u = omega (arith, S.head.used)

  reference-good : after.reference ≤ end_of_references
  unfolding header_after
  reference-good = by p.numbered refl
    where
      by : (b : Bool) → p.numbered ≡ b → h.reference + one_if b ≤ end_of_references
      by true n = omega (arith, reference-there n)
      by false n = omega (arith, S.head.highest-reference)

  good : HeaderGood after (records_in t)
  unfolding header_after
  good =
      let s₀ = S.head in
      record {
        day = day-good;
        fewest-firms = s₀.fewest-firms;
        most-firms = s₀.most-firms;
        used = used-good;
        last = stamp-legal s P.legal;
        lowest-reference = omega (arith, s₀.lowest-reference);
        highest-reference = reference-good;
        lowest-threshold = s₀.lowest-threshold;
        highest-threshold = s₀.highest-threshold;
        shaped = s₀.shaped;
        blocked = blocked-good;
        rest = s₀.rest;
      }

  pub whole : WholeHeader after
  unfolding header_after
  whole =
      let g = good in
      record {
        day = omega (arith, g.day);
        count = omega (arith, g.most-firms);
        blocked = in-byte after g.most-firms g.blocked;
        used = omega (arith, g.used, S.size.most);
        last = omega (arith, g.last);
        reference = omega (arith, g.highest-reference);
        threshold = omega (arith, g.highest-threshold);
        firms = (holds t S).firms;
      }

  written-sound : sound (committed t place (stamp_of s) p) ≡ true
  unfolding committed header_after
  written-sound =
      let long = kept₂.long in
      header-keeps after whole two (same_size t two long S.size) (rw (same-records t two long) good) kept₂.records kept₂.agrees

  pub keeps : sound (committed t place (stamp_of s) (plan_of (comes_to books s))) ≡ true
  keeps = ap (λ (d : Decision). sound (committed t place (stamp_of s) (plan_of d))) P.is ∙ written-sound

-- ---- and every record of a sound table is as the paper says

record-paper : (s : List ℕ) → RecordGood s → Paper (order_of s)
unfolding open_shares
record-paper s g = by g.standing
  where
    by : Live (order_of s) ⊎ (Dead (order_of s) ⊎ Rejected s (order_of s)) → Paper (order_of s)
    by (inl l) =
        record {
          spent = λ none state. omega (arith, none, l.1);
          dead-liable = λ state. absurd (let z : ◌≡◌ {A = ℕ} live dead = sym l.0 ∙ state in omega (arith, z));
        }
    by (inr (inl d)) =
        record {
          spent = λ none state. let z : ◌≡◌ {A = ℕ} live dead = sym state ∙ d.0 in omega (arith, z);
          dead-liable = λ state. ap total (sym d.1);
        }
    by (inr (inr r)) =
        record {
          spent = λ none state. omega (arith, state, r.0);
          dead-liable = λ state. absurd (omega (arith, state, r.0));
        }

pub every-record : (t : List ℕ) → sound t ≡ true → EveryRecord t
unfolding order_at
every-record t ok i l = record-paper (record_bytes t i) ((of-sound t ok).records i l)
