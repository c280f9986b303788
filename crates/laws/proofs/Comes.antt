-- What is known of an entry that comes to something done: it is legal, a record and a reference are left where they are needed, and its plan
-- keeps what the rules keep. Assumes nothing.
use Rattle.std.specs.Prelude.{Option, None, Some}
use Rattle.octets.proofs.Proving.{Bool, List, ◌&&◌, ◌+◌, ◌<◌, ◌||◌, ◌∙◌, ◌∷◌, ◌≡◌, ◌≢◌, ◌≤◌, ◌⊎◌, ap, arith, drop, drop-drop, eqb, false, false≢true, guard, inl, inr, le-leb, length, length-drop, ltb, ltb-true, not, not-false, not-true, or_left, or_right, refl, replicate, subst, sym, take, true, ℕ}
use Rattle.octets.specs.Choice.{◌⇒◌⨾◌, all_below, among}
use Rattle.octets.specs.Bytes.{part}
use Rattle.octets.proofs.Laws.{length_part}
use Rattle.octets.proofs.Below.{both}
use Rattle.answers.specs.Answer.{is_done, answer_number}
use Rattle.answers.proofs.Laws.{is-done}
use Rattle.wire.specs.Limits.{token_size, stamp_end}
use Rattle.wire.specs.Letters.{space, stock_states}
use Rattle.wire.specs.Text.{token_byte, capital, small, digit}
use Rattle.wire.specs.Layout.{Field, stamp_at, token_at, stock_state_at, first_bad_place, bad_place, is_none, no_bad_place}
use Rattle.wire.specs.Messages.{bad_at◌⨾◌}
use Rattle.wire.proofs.NoneBad.{legal_token, none-of-both, none-unless, token-bytes}
use Rattle.table.specs.Table.{header, used_in, place_of, order_from, order_named}
use Rattle.table.proofs.Soundness.{Sound}
use Rattle.table.proofs.Finding.{found as found-there}
use Rattle.tape.specs.Behind.{behind_of, judged_fields}
use Rattle.tape.specs.Kinds.{kind_of}
use Rattle.tape.specs.Entries.{well_formed, bad_place_of, entry_answer, names_order, stamp_of, token_of, message_in, enter_of, replace_of, cancel_of, modify_of, execution_of, book_cancel_of, self_match_of, priority_of, system_of, stock_state_of, purge_of, blocking_of}
use Rattle.tape.proofs.Formed.{formed, long_as, judged}
use Rattle.inbound.specs.Inbound.{enter_order_of, replace_order_of}
use Rattle.stocks.specs.Stocks.{standing_in}
use Rattle.rules.specs.Plan.{answer_of, plan_of, refused}
use Rattle.rules.specs.Enter.{enter_rule}
use Rattle.rules.specs.Replace.{replace_rule}
use Rattle.rules.proofs.Refused.{refused-answer}
use Rattle.host.specs.Step.{Books, named_place, decide_by, decide, no_record_free, no_reference_left, within_limits, comes_to}
use Rattle.host.proofs.Offers.{judged-good}
use Rattle.laws.specs.Blocked.{is_blocked}
use Rattle.laws.proofs.Types.{Answer, BadField, Done, Full, Malformed, TooEarly, Order, Header, Decision, Kind, Enters, Replaces, Cancels, Modifies, Executes, BookCancels, SelfMatches, Prioritises, TurnsLate, EndsCross, TellsDay, SetsStock, Purges, Disables, Enables, Unknown, StockStanding}
use Rattle.laws.proofs.Shapes.{of_rules, Orderly, Keeps, refused-keeps}
use Rattle.laws.proofs.Rules.{Sane, enter-keeps, replace-keeps, cancel-keeps, modify-keeps, execution-keeps, book-cancel-keeps, self-match-keeps, priority-keeps, late-keeps, cross-done-keeps, purge-keeps, blocking-rule-keeps, system-keeps, halt-orderly}
use Rattle.laws.proofs.Given.{sane-from, live-there, from_is, holds}

-- ---- the guards that were passed

pub record Passed (books : Books) (s : List ℕ) : Type 0 where
  pub legal : entry_answer s ≡ Done
  pub record-left : no_record_free books.table (plan_of (decide books s)) ≡ false
  pub reference-left : no_reference_left books.table (plan_of (decide books s)) ≡ false
  pub is : comes_to books s ≡ decide books s

-- what an entry comes to, by what was asked on the way
abbrev comes_by : Answer → Decision → Bool → Bool → Bool → Decision
comes_by a d legal early full = not legal ⇒ refused a ⨾ early ⇒ refused TooEarly ⨾ full ⇒ refused Full ⨾ d

passed-by : (a : Answer) (d : Decision) (legal early full : Bool) → is_done a ≡ legal → is_done (answer_of (comes_by a d legal early full)) ≡ true
    → (legal ≡ true) × ((full ≡ false) × ((is_done (answer_of d) ≡ true) × (comes_by a d legal early full ≡ d)))
unfolding is_done refused
passed-by a d false early full q h = absurd (false≢true (sym q ∙ ap is_done (sym (refused-answer a)) ∙ h))
passed-by a d true true full q h = absurd (false≢true h)
passed-by a d true false true q h = absurd (false≢true h)
passed-by a d true false false q h = (refl, (refl, (h, refl)))

-- what is done is refused for neither reason
neither : (done a b : Bool) → done ≡ true → (done && (a || b)) ≡ false → (a ≡ false) × (b ≡ false)
neither true a b d h = (or_left a b h, or_right a b h)
neither false a b d h = absurd (false≢true d)

pub passed : (books : Books) (s : List ℕ) → is_done (answer_of (comes_to books s)) ≡ true → Passed books s
unfolding comes_to within_limits
passed books s h =
    let t = books.table in
    let d = decide books s in
    let p = passed-by (entry_answer s) d (is_done (entry_answer s)) (ltb (stamp_of s) (header t).last) _ refl h in
    let none = neither (is_done (answer_of d)) (no_record_free t (plan_of d)) (no_reference_left t (plan_of d)) p.1.1.0 p.1.0 in
    record { legal = is-done (entry_answer s) p.0; record-left = none.0; reference-left = none.1; is = p.1.1.1 }

-- ---- a legal entry's stamp and tokens

-- a field that is judged, and those behind it
field-good : (f : Field) (fs : List Field) (s : List ℕ) → no_bad_place (f ∷ fs) s ≡ true
    → (is_none (bad_place f.rule f.at (part s f.at f.width)) ≡ true) × (no_bad_place fs s ≡ true)
unfolding no_bad_place first_bad_place
field-good f fs s h =
    let here = bad_place f.rule f.at (part s f.at f.width) in
    both (is_none here) (is_none (first_bad_place fs s)) (sym (none-of-both here (first_bad_place fs s)) ∙ h)

module _ (s : List ℕ) (legal : entry_answer s ≡ Done) where
  w : well_formed s ≡ true
  w = (judged-good s legal).0

  fields-good : (is_none (bad_place (stamp_at 1).rule 1 (part s 1 8)) ≡ true) × (no_bad_place (judged_fields (behind_of (kind_of s))) s ≡ true)
  unfolding bad_place_of no_bad_place
  fields-good =
      field-good (stamp_at 1) (judged_fields (behind_of (kind_of s))) s
      (ap is_none (sym (judged (kind_of s) s (formed s w).known) ∙ (judged-good s legal).1))

  pub stamp-legal : stamp_of s < stamp_end
  unfolding bad_place stamp_of
  stamp-legal = ltb-true _ _ (sym (none-unless _ 1) ∙ fields-good.0)

  behind-good : (k : Kind) → kind_of s ≡ k → no_bad_place (judged_fields (behind_of k)) s ≡ true
  behind-good k e = subst (λ (x : Kind). no_bad_place (judged_fields (behind_of x)) s ≡ true) e fields-good.1

  entered-legal : kind_of s ≡ Enters → legal_token (token_of s) ≡ true
  unfolding bad_place token_of
  entered-legal e = sym (token-bytes 9 (part s 9 14)) ∙ (field-good (token_at 9) _ s (behind-good Enters e)).0

  replaced-legal : kind_of s ≡ Replaces → legal_token (part s 23 14) ≡ true
  unfolding bad_place
  replaced-legal e =
      sym (token-bytes 23 (part s 23 14)) ∙ (field-good (token_at 23) _ s (field-good (token_at 9) _ s (behind-good Replaces e)).1).0

  -- an h's state is one of the two
  pub state-legal : kind_of s ≡ SetsStock → among stock_states (stock_state_of s).state ≡ true
  unfolding bad_place stock_state_of
  state-legal e = sym (none-unless _ 17) ∙ (field-good (stock_state_at 17) _ s (behind-good SetsStock e)).0

-- ---- what the rules keep, of the order that the entry names and the token that it may use up

-- a part of the message is a part of the entry, eight bytes on
part_in : (s : List ℕ) (at n : ℕ) → part (drop 8 s) at n ≡ part s (8 + at) n
part_in s at n = ap (take n) (drop-drop at 8 s)

pub record NewToken (token : List ℕ) : Type 0 where
  pub long : length token ≡ token_size
  pub legal : legal_token token ≡ true

-- stands for the token of an entry that uses up none
blank : List ℕ
blank = replicate token_size space

blank-new : NewToken blank
unfolding blank all_below token_byte capital small digit
blank-new = record { long = refl; legal = refl }

-- h or another kind
pub is_halt : (k : Kind) → (k ≡ SetsStock) ⊎ (k ≢ SetsStock)
is_halt Enters = inr (λ q. let z : ◌≡◌ {A = ℕ} 0 1 = cc in absurd (omega arith))
is_halt Replaces = inr (λ q. let z : ◌≡◌ {A = ℕ} 0 1 = cc in absurd (omega arith))
is_halt Cancels = inr (λ q. let z : ◌≡◌ {A = ℕ} 0 1 = cc in absurd (omega arith))
is_halt Modifies = inr (λ q. let z : ◌≡◌ {A = ℕ} 0 1 = cc in absurd (omega arith))
is_halt Executes = inr (λ q. let z : ◌≡◌ {A = ℕ} 0 1 = cc in absurd (omega arith))
is_halt BookCancels = inr (λ q. let z : ◌≡◌ {A = ℕ} 0 1 = cc in absurd (omega arith))
is_halt SelfMatches = inr (λ q. let z : ◌≡◌ {A = ℕ} 0 1 = cc in absurd (omega arith))
is_halt Prioritises = inr (λ q. let z : ◌≡◌ {A = ℕ} 0 1 = cc in absurd (omega arith))
is_halt TurnsLate = inr (λ q. let z : ◌≡◌ {A = ℕ} 0 1 = cc in absurd (omega arith))
is_halt EndsCross = inr (λ q. let z : ◌≡◌ {A = ℕ} 0 1 = cc in absurd (omega arith))
is_halt TellsDay = inr (λ q. let z : ◌≡◌ {A = ℕ} 0 1 = cc in absurd (omega arith))
is_halt SetsStock = inl refl
is_halt Purges = inr (λ q. let z : ◌≡◌ {A = ℕ} 0 1 = cc in absurd (omega arith))
is_halt Disables = inr (λ q. let z : ◌≡◌ {A = ℕ} 0 1 = cc in absurd (omega arith))
is_halt Enables = inr (λ q. let z : ◌≡◌ {A = ℕ} 0 1 = cc in absurd (omega arith))
is_halt Unknown = inr (λ q. let z : ◌≡◌ {A = ℕ} 0 1 = cc in absurd (omega arith))

-- of the order that the table t has under that token
abbrev pub Kept : List ℕ → Order → Decision → Type 0
Kept t o d = (token : List ℕ) × (NewToken token × Orderly o (order_named t token) token d)

-- the same of a rule that sets no stock
abbrev KeptQuiet : List ℕ → Order → Decision → Type 0
KeptQuiet t o d = (token : List ℕ) × (NewToken token × Keeps o (order_named t token) token d)

module _ (books : Books) (s : List ℕ) (ok : Sound books.table) (legal : entry_answer s ≡ Done) where
  abbrev t : List ℕ
  t = books.table

  abbrev h : Header
  h = header t

  abbrev pub named : Order
  named = order_from t (named_place t s)

  sane : Sane named
  sane = sane-from t ok (named_place t s)

  -- an entry with a token names it
  named-place : token_size + 9 ≤ length s → named_place t s ≡ place_of t (token_of s)
  unfolding named_place names_order
  named-place l = rw (le-leb _ _ l)

  abbrev other : {d : Decision} → Keeps named (order_named t blank) blank d → KeptQuiet t named d
  other k = (blank, (blank-new, k))

  abbrev entered : StockStanding
  entered = standing_in books.stocks (enter_of s).stock

  abbrev replaced : StockStanding
  replaced = standing_in books.stocks named.details.kept.stock

  enter-kept : kind_of s ≡ Enters → KeptQuiet t named (enter_rule h named entered (enter_of s))
  unfolding enter_of enter_order_of message_in token_of order_named
  enter-kept e =
      let n = long_as s (w s legal) refl e in
      let l : length (drop 8 s) ≡ 48 = length-drop 8 s ∙ omega (arith, n) in
      let at = named-place (omega (arith, n)) in
      let here : part (drop 8 s) 1 14 ≡ part s 9 14 = part_in s 1 14 in (
        token_of s,
        (
          record { long = length_part s 9 14 (omega (arith, n)); legal = entered-legal s legal e },
          subst (λ (i : ℕ). Keeps named (order_from t i) (part s 9 14) (enter_rule h named entered (enter_of s))) at
              (subst (λ (token : List ℕ). Keeps named named token (enter_rule h named entered (enter_of s))) here
              (enter-keeps h (enter_of s) named entered (holds t ok)
              (record {
                token = length_part (drop 8 s) 1 14 (omega (arith, l));
                stock = length_part (drop 8 s) 20 8 (omega (arith, l));
                firm = length_part (drop 8 s) 36 4 (omega (arith, l));
              }))),
        ),
      )

  replace-kept : kind_of s ≡ Replaces → KeptQuiet t named (replace_rule h named (order_named t (replace_of s).replacement) replaced (replace_of s))
  unfolding replace_of replace_order_of message_in token_of
  replace-kept e =
      let n = long_as s (w s legal) refl e in
      let l : length (drop 8 s) ≡ 47 = length-drop 8 s ∙ omega (arith, n) in
      let at = named-place (omega (arith, n)) in
      let long = length_part (drop 8 s) 15 14 (omega (arith, l)) in (
        (replace_of s).replacement,
        (
          record { long = long; legal = ap legal_token (part_in s 15 14) ∙ replaced-legal s legal e },
          replace-keeps h named (order_named t (replace_of s).replacement) replaced (replace_of s) (holds t ok) sane long
              (λ alive.
              let there = subst (λ (i : ℕ). i < used_in t) at (live-there t (named_place t s) alive) in
              part_in s 1 14
              ∙ sym (found-there t (token_of s) there).has
              ∙ ap (λ (q : Order). q.token) (sym (from_is t (place_of t (token_of s)) there))
              ∙ ap (λ (i : ℕ). (order_from t i).token) (sym at)),
        ),
      )

  abbrev found : Order
  found = order_named t (replace_of s).replacement

  -- every rule but h's
  by_kind : (k : Kind) → k ≢ SetsStock → kind_of s ≡ k → KeptQuiet t named (decide_by k h named found books.stocks s)
  unfolding decide_by
  by_kind Enters n e = enter-kept e
  by_kind Replaces n e = replace-kept e
  by_kind Cancels n e = other (cancel-keeps named (order_named t blank) blank sane (cancel_of s))
  by_kind Modifies n e = other (modify-keeps named (order_named t blank) blank sane h (modify_of s))
  by_kind Executes n e = other (execution-keeps named (order_named t blank) blank sane h (execution_of s))
  by_kind BookCancels n e = other (book-cancel-keeps named (order_named t blank) blank sane (book_cancel_of s))
  by_kind SelfMatches n e = other (self-match-keeps named (order_named t blank) blank sane h (self_match_of s))
  by_kind Prioritises n e = other (priority-keeps named (order_named t blank) blank sane h (priority_of s))
  by_kind TurnsLate n e = other (late-keeps named (order_named t blank) blank sane h)
  by_kind EndsCross n e = other (cross-done-keeps named (order_named t blank) blank sane)
  by_kind TellsDay n e = other (system-keeps h (system_of s) named (order_named t blank) blank)
  by_kind SetsStock n e = absurd (n refl)
  by_kind Purges n e = other (purge-keeps named (order_named t blank) blank sane h (purge_of s))
  by_kind Disables n e = other (blocking-rule-keeps h (blocking_of s) true named (order_named t blank) blank)
  by_kind Enables n e = other (blocking-rule-keeps h (blocking_of s) false named (order_named t blank) blank)
  by_kind Unknown n e = other (refused-keeps Malformed refl)

  halted-kept : Kept t named (decide_by SetsStock h named found books.stocks s)
  unfolding decide_by
  halted-kept = (blank, (blank-new, halt-orderly (standing_in books.stocks (stock_state_of s).symbol) (stock_state_of s) named (order_named t blank) blank))

  kind-keeps : (k : Kind) → kind_of s ≡ k → Kept t named (decide_by k h named found books.stocks s)
  kind-keeps k e = by (is_halt k)
    where
      by : (k ≡ SetsStock) ⊎ (k ≢ SetsStock) → Kept t named (decide_by k h named found books.stocks s)
      by (inl q) = subst (λ (x : Kind). Kept t named (decide_by x h named found books.stocks s)) (sym q) halted-kept
      by (inr n) = let r = by_kind k n e in (r.0, (r.1.0, r.1.1.orderly))

  pub decide-keeps : Kept t named (decide books s)
  unfolding decide
  decide-keeps = kind-keeps (kind_of s) refl

  -- the rule of its kind decides
  pub decided-by : (k : Kind) → kind_of s ≡ k → decide books s ≡ decide_by k h named found books.stocks s
  unfolding decide
  decided-by k e = ap (λ (x : Kind). decide_by x h named found books.stocks s) e

  -- another kind than h sets no stock's state
  pub decide-quiet : kind_of s ≢ SetsStock → (plan_of (decide books s)).stock ≡ None
  unfolding decide
  decide-quiet n = (by_kind (kind_of s) n refl).1.1.quiet

-- ---- what an entry comes to is never 'blocked', and 3 only where judging it says so

module _ (books : Books) (s : List ℕ) (ok : Sound books.table) where
  -- a decision of the rules has an answer of theirs
  decided-own : is_done (entry_answer s) ≡ true → of_rules (answer_of (decide books s)) ≡ true
  decided-own legal = (decide-keeps books s ok (is-done (entry_answer s) legal)).1.1.own

  pub unblocked : is_blocked (answer_of (comes_to books s)) ≡ false
  unfolding comes_to within_limits refused entry_answer
  unblocked =
      guard Other (not (is_done (entry_answer s))) (λ _. ap is_blocked (refused-answer (entry_answer s)) ∙ judged-unblocked) λ legal.
      guard Other (ltb (stamp_of s) (header books.table).last) (λ _. refl) λ _.
      guard Other (is_done (answer_of (decide books s)) && (no_record_free books.table (plan_of (decide books s)) || no_reference_left books.table (plan_of (decide books s)))) (λ _. refl) λ _.
      not-true _ (both (not (eqb (answer_number (answer_of (decide books s))) 3)) _ (decided-own (not-false _ legal))).1
    where
      Other : Decision → Type 0
      Other d = is_blocked (answer_of d) ≡ false

      by_place : (o : Option ℕ) → is_blocked (bad_at o ⨾ Done) ≡ false
      by_place None = refl
      by_place (Some at) = refl

      judged-unblocked : is_blocked (entry_answer s) ≡ false
      judged-unblocked = guard (λ (a : Answer). is_blocked a ≡ false) (not (well_formed s)) (λ _. refl) λ _. by_place (bad_place_of s)

  pub comes-bad : (at : ℕ) → answer_of (comes_to books s) ≡ BadField at → entry_answer s ≡ BadField at
  unfolding comes_to within_limits refused
  comes-bad at =
      guard Judged (not (is_done (entry_answer s))) (λ _ e. sym (refused-answer (entry_answer s)) ∙ e) λ legal.
      guard Judged (ltb (stamp_of s) (header books.table).last) (λ _ e. let z : ◌≡◌ {A = ℕ} 0 1 = cc in absurd (omega arith)) λ _.
      guard Judged (is_done (answer_of (decide books s)) && (no_record_free books.table (plan_of (decide books s)) || no_reference_left books.table (plan_of (decide books s))))
      (λ _ e. let z : ◌≡◌ {A = ℕ} 0 1 = cc in absurd (omega arith)) λ _ e.
      let own = (both (not (eqb (answer_number (answer_of (decide books s))) 3)) _ (decided-own (not-false _ legal))).0 in
      absurd (false≢true (ap (λ (a : Answer). not (eqb (answer_number a) 3)) (sym e) ∙ own))
    where
      Judged : Decision → Type 0
      Judged d = answer_of d ≡ BadField at → entry_answer s ≡ BadField at

pub bad-comes : (books : Books) (s : List ℕ) (at : ℕ) → entry_answer s ≡ BadField at → answer_of (comes_to books s) ≡ BadField at
unfolding comes_to refused is_done
bad-comes books s at e = rw e
