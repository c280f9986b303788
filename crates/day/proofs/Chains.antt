-- No chain ever executes above 999,999 shares: from a fresh table on, whatever is played, what the messages tell as executed along a chain of
-- replacements is at most what the chain's last order has executed. Assumes nothing.
use Rattle.octets.proofs.Proving.{Bool, List, [], ◌++◌, ◌+◌, ◌<◌, ◌^◌, ◌∙◌, ◌∷◌, ◌≡◌, ◌≤◌, ap, arith, dec_lt, false, false≢true, inl, length, refl, subst, suc, sym, true, zero, ℕ}
use Rattle.octets.specs.Choice.{pick, all_below}
use Rattle.octets.specs.Bytes.{same, zeros, number_of, number_from}
use Rattle.octets.proofs.Below.{same_true, same_self}
use Rattle.answers.specs.Answer.{is_done}
use Rattle.wire.specs.Letters.{live, dead}
use Rattle.wire.specs.Limits.{token_size}
use Rattle.wire.specs.Text.{token_byte, capital, small, digit}
use Rattle.orders.specs.Limits.{most_shares}
use Rattle.orders.specs.Counts.{new_counts}
use Rattle.orders.specs.Order.{is_used, no_order, rejected_order, order_of}
use Rattle.table.specs.Table.{header, used_in, order_at, place_of, order_named, sound}
use Rattle.orders.specs.declared.order.Order.{Order}
use Rattle.wire.proofs.NoneBad.{legal_token as judged_token}
use Rattle.table.proofs.Soundness.{Sound}
use Rattle.table.proofs.Finding.{found}
use Rattle.tape.specs.Entries.{stamp_of}
use Rattle.rules.specs.Types.{Decision}
use Rattle.rules.specs.declared.plan.Notice.{Notice}
use Rattle.rules.specs.declared.plan.Notice.TheVariants.{Accepted, AiqCancelled, CancelPending, CancelReject, Canceled, Executed, Modified, PriorityUpdate, Rejected, Replaced, Silent, SystemEvent}
use Rattle.rules.specs.declared.plan.Plan.{Plan}
use Rattle.laws.proofs.Shapes.{Changed, Born, told_executed, of_none, subject, Shape, nobody, changes, accepts, rejects, replaces}
use Rattle.notices.specs.Notices.{message}
use Rattle.laws.proofs.Standing.{live_state, executed-most, standing-used}
use Rattle.rules.specs.Plan.{answer_of, plan_of}
use Rattle.host.specs.Step.{Books, one_if, books_after, comes_to}
use Rattle.laws.proofs.Given.{from_is, live-there, shaped-none, none-unused}
use Rattle.laws.proofs.Sounds.{S, P, K, p, place, o as named_order, one}
use Rattle.laws.proofs.Records.{Face, face, face_at, left, left-used, changed-face, unchanged-face, unchanged-faces, added-face, earlier-face}
use Rattle.day.specs.Day.{telling, unlimited, books_with}
use Rattle.day.specs.Chain.{executed_in, chain, executed_along}
use Rattle.day.proofs.Plays.{plays}
use Rattle.day.proofs.Ledger.{Carries, from_nothing, from_before, Balanced, still, moved, grown}
use Rattle.day.proofs.Tokens.{named-is, named_none, has-used, used-has, tokens-stay}
use Rattle.day.proofs.Telling.{tells, executed-append, executed-telling}

-- the ledger of a table, of the messages told so far
abbrev pub Ledger : List ℕ → List (List ℕ) → Type 0
Ledger t past = Balanced (header t).used (face_at t) (λ token. executed_in token past)

nobody-tells : (notice : Notice) → subject notice ≡ of_none → told_executed notice ≡ 0
nobody-tells Silent of = refl
nobody-tells (SystemEvent event) of = refl
nobody-tells Accepted of = refl
nobody-tells Replaced of = refl
nobody-tells (Canceled decrement reason) of = refl
nobody-tells (AiqCancelled e) of = refl
nobody-tells (Executed e) of = let z : ◌≡◌ {A = ℕ} 0 1 = cc in absurd (omega arith)
nobody-tells (Rejected reason) of = refl
nobody-tells CancelPending of = refl
nobody-tells CancelReject of = refl
nobody-tells PriorityUpdate of = refl
nobody-tells Modified of = refl

-- ---- one done entry

module _ (books : Books) (s : List ℕ) (ok : sound books.table ≡ true) (done : is_done (answer_of (comes_to books s)) ≡ true) (past : List (List ℕ))
    (ledger : Ledger books.table past)
  where
    abbrev t : List ℕ
    t = books.table

    abbrev plan : Plan
    plan = p books s ok done

    abbrev o : Order
    o = named_order books s ok done

    abbrev at : ℕ
    at = place books s ok done

    abbrev used : ℕ
    used = (header t).used

    abbrev mid : List ℕ
    mid = one books s ok done

    abbrev end : List ℕ
    end = left books s ok done

    abbrev told : List ℕ → ℕ
    told token = executed_in token past

    -- what is told with this entry's message
    abbrev later : List ℕ → ℕ
    later token = executed_in token (past ++ telling (message (stamp_of s) plan) [])

    told-later : length plan.changed.token ≡ token_size → told_executed plan.notice < 256 ^ 4 → (token : List ℕ)
        → later token ≡ told token + pick (same plan.changed.token token) (told_executed plan.notice) 0
    unfolding message
    told-later long fits token =
        executed-append token past _
        ∙ ap (λ (n : ℕ). told token + n)
        (executed-telling token (message (stamp_of s) plan) ∙ tells (stamp_of s) plan.changed plan.added plan.notice token long fits)

    -- ---- the named order

    -- nothing of it changes, and nothing is told as executed
    silent : plan.changed ≡ no_order → told_executed plan.notice ≡ 0 → Balanced used (face_at mid) later
    silent none quiet =
        still used (face_at t) (face_at mid) told ledger later (λ i l. unchanged-faces books s ok done (ap is_used none ∙ none-unused) i) λ token.
        told-later (ap (λ (q : Order). length q.token) none ∙ shaped-none.token) (omega (arith, quiet)) token
        ∙ by (same plan.changed.token token)
      where
        by : (b : Bool) {n : ℕ} → n + pick b (told_executed plan.notice) 0 ≡ n
        by true = omega (arith, quiet)
        by false = omega arith

    module _ (c : Changed o plan.notice plan.changed) where
      there : at < used
      there = omega (arith, live-there t at c.alive, (S books s ok done).used)

      is : face o ≡ face_at t at
      is = ap face (from_is t at (live-there t at c.alive))

      becomes : face_at mid at ≡ face plan.changed
      becomes = changed-face books s ok done (standing-used _ c.standing)

      all_told : (token : List ℕ) → later token ≡ told token + pick (same plan.changed.token token) (told_executed plan.notice) 0
      all_told = told-later c.shaped.token (omega (arith, c.executed, executed-most plan.changed c.standing))

      own : same plan.changed.token (face_at t at).token ≡ true
      own = ap (λ (x : List ℕ). same x (face_at t at).token) (c.token ∙ ap (λ (x : Face). x.token) is) ∙ same_self (face_at t at).token

      other : (token : List ℕ) → ((face_at t at).token ≡ token → ⊥) → same plan.changed.token token ≡ false
      other token apart = by (same plan.changed.token token) refl
        where
          by : (b : Bool) → same plan.changed.token token ≡ b → b ≡ false
          by true e = absurd (apart (sym (ap (λ (x : Face). x.token) is) ∙ sym c.token ∙ same_true _ _ e))
          by false e = refl

      speaking : Balanced used (face_at mid) later
      speaking =
          moved used (face_at t) (face_at mid) told ledger at (told_executed plan.notice) there
          (sym (ap (λ (x : Face). x.state) is) ∙ live_state o c.alive)
          (λ i l apart. unchanged-face books s ok done i l apart)
          (ap (λ (x : Face). x.token) becomes ∙ c.token ∙ ap (λ (x : Face). x.token) is)
          (ap (λ (x : Face). x.previous) becomes ∙ c.previous ∙ ap (λ (x : Face). x.previous) is)
          (ap (λ (x : Face). x.executed) becomes ∙ c.executed ∙ ap (λ (x : Face). x.executed + told_executed plan.notice) is)
          (subst (λ (x : Face). x.executed ≤ most_shares) (sym becomes) (executed-most plan.changed c.standing))
          later
          (all_told (face_at t at).token ∙ ap (λ (b : Bool). told (face_at t at).token + pick b (told_executed plan.notice) 0) own)
          (λ token apart.
          all_told token ∙ ap (λ (b : Bool). told token + pick b (told_executed plan.notice) 0) (other token apart) ∙ omega arith)

    -- ---- the added one

    -- there is none
    no_more : plan.added ≡ no_order → Balanced used (face_at mid) later → Balanced (header end).used (face_at end) later
    no_more none b =
        let same-used : (header end).used ≡ used = left-used books s ok done ∙ ap (λ (q : Order). used + one_if (is_used q)) none ∙ ap (λ (x : Bool). used + one_if x) none-unused ∙ omega arith in
        subst (λ (n : ℕ). Balanced n (face_at end) later) (sym same-used)
        (still used (face_at mid) (face_at end) later b later (λ i l. earlier-face books s ok done i l) (λ _. refl))

    -- there is one, under the token that the entry uses up
    module _ (is-used : is_used plan.added ≡ true) (free : is_used (order_named t (K books s ok done).0) ≡ false)
        (has : plan.added.token ≡ (K books s ok done).0)
      where
        new : (i : ℕ) → i < used → (face_at mid i).token ≡ (face_at end used).token → ⊥
        new i l e =
            let token = (K books s ok done).0 in
            let here : (order_at t i).token ≡ token =
            sym (tokens-stay books s ok done i l)
            ∙ ap (λ (x : Face). x.token) (earlier-face books s ok done i l)
            ∙ e
            ∙ ap (λ (x : Face). x.token) (added-face books s ok done is-used)
            ∙ has in
            false≢true (sym free ∙ has-used t token (S books s ok done) i (omega (arith, l, (S books s ok done).used)) here)

        one_more : Carries used (face_at mid) 0 (face plan.added) → plan.added.shares.executed.0 ≤ most_shares → Balanced used (face_at mid) later → Balanced (header end).used (face_at end) later
        one_more carry few b =
            subst (λ (n : ℕ). Balanced n (face_at end) later) (sym (left-used books s ok done ∙ ap (λ (x : Bool). used + one_if x) is-used))
            (grown used (face_at mid) (face_at end) later b (λ i l. earlier-face books s ok done i l) new
            (subst (Carries used (face_at mid) 0) (sym (added-face books s ok done is-used)) carry)
            (subst (λ (x : Face). x.executed ≤ most_shares) (sym (added-face books s ok done is-used)) few))

    -- ---- both, by the plan's shape

    born-used : {token before : List ℕ} {executed : ℕ} (new : Order) → Born token executed before new → is_used new ≡ true
    born-used new b = standing-used new (inl b.alive)

    by_shape : Shape o (order_named t (K books s ok done).0) (K books s ok done).0 plan → Balanced (header end).used (face_at end) later
    unfolding rejected_order new_counts no_order order_of is_used
    by_shape (nobody c a of) = no_more a (silent c (nobody-tells plan.notice of))
    by_shape (changes c a of) = no_more a (speaking c)
    by_shape (accepts free c born e) =
        one_more (born-used plan.added born) free born.token (from_nothing born.previous born.carried) (omega (arith, born.carried))
        (silent c (ap told_executed e))
    by_shape (rejects free c a reason e) =
        one_more (ap is_used a) free (ap (λ (q : Order). q.token) a)
        (from_nothing (ap (λ (q : Order). q.details.previous) a) (ap (λ (q : Order). q.shares.executed.0) a))
        (omega (arith, ap (λ (q : Order). q.shares.executed.0) a))
        (silent c (ap told_executed e))
    by_shape (replaces free c is-dead born e) =
        let c' : Changed o plan.notice plan.changed = rw e c in
        let stored = becomes c' in
        one_more (born-used plan.added born) free born.token
        (from_before at (there c') (ap (λ (x : Face). x.token) stored ∙ c.token ∙ sym born.previous)
        (λ alive. let z : ◌≡◌ {A = ℕ} dead live = sym is-dead ∙ sym (ap (λ (x : Face). x.state) stored) ∙ alive in omega (arith, z))
        (omega (arith, born.carried, c.executed, ap (λ (x : Face). x.executed) stored)))
        (executed-most plan.added (inl born.alive))
        (speaking c')

    -- the table and the messages as a play has them
    pub turned : Ledger (books_with books s (plan_of (comes_to books s))).table (past ++ telling (message (stamp_of s) (plan_of (comes_to books s))) [])
    unfolding books_after
    turned =
        subst (λ (d : Decision). Ledger (books_with books s (plan_of d)).table (past ++ telling (message (stamp_of s) (plan_of d)) [])) (sym (P books s ok done).is)
        (by_shape (K books s ok done).1.1.shape)

-- ---- any tape

-- where no record is used and nothing was told yet
pub opened-ledger : (t : List ℕ) → (header t).used ≡ 0 → Ledger t []
unfolding executed_in
opened-ledger t none =
    record {
      apart = λ i j a b e. absurd (omega (arith, none));
      carries = λ i l. absurd (omega (arith, none));
      most = λ i l. absurd (omega (arith, none));
      untold = λ token nobody. refl;
    }

pub ledger-kept : (ss : List (List ℕ)) (b : Books) (past : List (List ℕ)) → sound b.table ≡ true → Ledger b.table past
    → Ledger (unlimited b ss).books.table (past ++ (unlimited b ss).messages)
ledger-kept ss b past ok ledger = plays (λ b' past. Ledger b'.table past) (λ b' s told good done l. turned b' s good done told l) ss b past ok ledger

-- ---- along a chain

none-executed : no_order.shares.executed.0 ≡ 0
unfolding no_order order_of number_of number_from
none-executed = refl

no-token : judged_token (zeros token_size) ≡ false
unfolding all_below token_byte capital small digit
no-token = refl

module _ (t : List ℕ) (ok : Sound t) (ms : List (List ℕ)) (ledger : Ledger t ms) where
  -- zeros are no token
  before-first : (order_named t (zeros token_size)).shares.executed.0 ≡ 0
  unfolding order_at
  before-first = elim (dec_lt (place_of t (zeros token_size)) (used_in t)) [
    | yes l ↦
        absurd
        (false≢true
        (sym no-token
        ∙ ap judged_token (sym (found t (zeros token_size) l).has)
        ∙ (ok.records (place_of t (zeros token_size)) (omega (arith, l, ok.used))).token))
    | no l ↦ ap (λ (q : Order). q.shares.executed.0) (named_none t (zeros token_size) (omega arith)) ∙ none-executed
  ]

  -- a token that a record has names that record
  names : (j : ℕ) → j < (header t).used → (token : List ℕ) → (order_at t j).token ≡ token → order_named t token ≡ order_at t j
  names j l token has =
      let q = used-has t token (has-used t token ok j (omega (arith, l, ok.used)) has) in
      named-is t token q ∙ ap (order_at t) (ledger.apart (place_of t token) j (omega (arith, q, ok.used)) l ((found t token q).has ∙ sym has))

  along : (n : ℕ) (token : List ℕ) → executed_along (chain t n token) ms ≤ (order_named t token).shares.executed.0
  unfolding chain executed_along
  along zero token = omega arith
  along (suc n) token = by (is_used (order_named t token)) refl (along n)
    where
      at : ℕ
      at = place_of t token

      back : Carries (header t).used (face_at t) (executed_in (order_at t at).token ms) (face_at t at)
          → (order_at t at).token ≡ token
          → executed_along (chain t n (order_at t at).details.previous) ms ≤ (order_named t (order_at t at).details.previous).shares.executed.0
          → executed_in token ms + executed_along (chain t n (order_at t at).details.previous) ms ≤ (order_at t at).shares.executed.0
      back (from_nothing first all) has less =
          omega (arith, all, ap (λ (x : List ℕ). executed_in x ms) has, less, ap (λ (x : List ℕ). (order_named t x).shares.executed.0) first, before-first)
      back (from_before j l is ended all) has less =
          omega (arith, all, ap (λ (x : List ℕ). executed_in x ms) has, less, ap (λ (q : Order). q.shares.executed.0) (names j l _ is))

      by : (b : Bool) → is_used (order_named t token) ≡ b
          → ((before : List ℕ) → executed_along (chain t n before) ms ≤ (order_named t before).shares.executed.0)
          → executed_along (pick b (token ∷ chain t n (order_named t token).details.previous) []) ms ≤ (order_named t token).shares.executed.0
      by true u less =
          let l = used-has t token u in
          rw (named-is t token l) (back (ledger.carries at (omega (arith, l, ok.used))) (found t token l).has (less (order_at t at).details.previous))
      by false u less = omega arith

  pub never-above : (n : ℕ) (token : List ℕ) → executed_along (chain t n token) ms ≤ most_shares
  never-above n token = elim (dec_lt (place_of t token) (used_in t)) [
    | yes l ↦ omega (arith, along n token, ap (λ (q : Order). q.shares.executed.0) (named-is t token l), ledger.most (place_of t token) (omega (arith, l, ok.used)))
    | no l ↦ omega (arith, along n token, ap (λ (q : Order). q.shares.executed.0) (named_none t token (omega arith)), none-executed)
  ]
