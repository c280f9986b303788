-- What the sixteen echoes cite: what was read is written as it was, and the type says which layout it is. Assumes nothing.
use Rattle.octets.proofs.Proving.{Bool, List, List·get_d-eq-default, [], ◌∙◌, ◌∷◌, ◌≡◌, ap, arith, eqb, false, get_or, length, ne_eqb, sym, true, ℕ}
use Rattle.std.specs.Prelude.{Option, None, Some, Ok, Err}
use Rattle.answers.specs.declared.Refusal.{Refusal}
use Rattle.octets.specs.Choice.{pick}
use Rattle.answers.specs.Answer.{is_done, if_done}
use Rattle.answers.specs.Answer.{Answer}
use Rattle.answers.specs.Answer.{Malformed}
use Rattle.answers.proofs.Laws.{is-done}
use Rattle.wire.specs.Layout.{Layout, Values, layout_for}
use Rattle.wire.specs.Legal.{Bytes}
use Rattle.wire.specs.Messages.{read_answer, legal_or_zeros, where_done, write_answer, buffer_after}
use Rattle.wire.proofs.Codec.{Faithful}
use Rattle.echo.specs.Echo.{echo_answer, echoed, answer_among, echoed_among}
pub use Rattle.wire.proofs.Codec.{refl}

-- of what a reader gave, x its fields
module _ {X : Type 0} (l : Layout) (s out : List ℕ) where
  -- a refused message: its answer, and what was lent is kept as it was
  pub kept : (x : X) {r : Refusal} → where_done (read_answer l s) x ≡ Err r → (Err r ≡ echo_answer l s out) × (out ≡ echoed l s out)
  unfolding echo_answer echoed if_done is_done
  kept x {r} e = go (read_answer l s) refl e
    where
      go : (a : Answer) → read_answer l s ≡ a → where_done a x ≡ Err r → (Err r ≡ echo_answer l s out) × (out ≡ echoed l s out)
      go (Ok done) h e = absurd (cc)
      go (Err q) h e = let same : q ≡ r = cc in rw (h, same) (refl, refl)

  -- a legal one: its fields, written
  pub back : {of : List ℕ → X} {bytes : X → List ℕ} {values : X → Values l.fields} → Faithful l of bytes values → Bytes s → {m : X}
      → where_done (read_answer l s) (of (legal_or_zeros l s)) ≡ Ok m → {r : Answer} {exit : List ℕ}
      → (r ≡ write_answer l (bytes m) out) × (exit ≡ buffer_after l (bytes m) out) → (r ≡ echo_answer l s out) × (exit ≡ echoed l s out)
  unfolding echo_answer echoed if_done is_done legal_or_zeros
  back {of} {bytes} faithful b {m} e {r} {exit} w = go (read_answer l s) refl e
    where
      go : (a : Answer) → read_answer l s ≡ a → where_done a (of (legal_or_zeros l s)) ≡ Ok m → (r ≡ echo_answer l s out) × (exit ≡ echoed l s out)
      go (Ok done) h e =
          let there : legal_or_zeros l s ≡ s = rw h refl in
          let read : of (legal_or_zeros l s) ≡ m = cc in
          let same : bytes m ≡ s = ap bytes (sym read ∙ ap of there) ∙ faithful.same_bytes s b h in
          rw h (w.0 ∙ ap (λ (x : List ℕ). write_answer l x out) same, w.1 ∙ ap (λ (x : List ℕ). buffer_after l x out) same)
      go (Err q) h e = absurd (cc)

-- ---- which layout it is

-- `layout_for`, open to computation
abbrev layout_with : List Layout → ℕ → Option Layout
layout_with [] code = None
layout_with (l ∷ ls) code = pick (eqb l.code code) (Some l) (layout_with ls code)

computed : (ls : List Layout) (code : ℕ) → layout_for ls code ≡ layout_with ls code
unfolding layout_for
computed [] code = refl
computed (l ∷ ls) code = ap (pick (eqb l.code code) (Some l)) (computed ls code)

-- a type that was found
pub known : (ls : List Layout) (s out : List ℕ) {code : ℕ} {l : Layout} → get_or s 0 0 ≡ code → layout_with ls code ≡ Some l → {r : Answer} {exit : List ℕ}
    → (r ≡ echo_answer l s out) × (exit ≡ echoed l s out) → (r ≡ answer_among ls s out) × (exit ≡ echoed_among ls s out)
unfolding answer_among echoed_among
known ls s out {code} first is w = let f = ap (layout_for ls) first ∙ computed ls code ∙ is in rw f w

-- where there is no byte
pub nothing : (ls : List Layout) (s out : List ℕ) → length s ≡ 0 → layout_with ls 0 ≡ None → (Malformed ≡ answer_among ls s out) × (out ≡ echoed_among ls s out)
unfolding answer_among echoed_among
nothing ls s out e is = let f = ap (layout_for ls) (List·get_d-eq-default s 0 {n = 0} (omega arith)) ∙ computed ls 0 ∙ is in rw f (refl, refl)

-- a type that is none of them, as a match leaves it
abbrev Unlike : Type 0 → List Layout → ℕ → Type 0
Unlike others [] code = others
Unlike others (l ∷ ls) code = Unlike (others × (code ≡ l.code → ⊥)) ls code

none_is : (others : Type 0) (ls : List Layout) (code : ℕ) → Unlike others ls code → others × (layout_for ls code ≡ None)
unfolding layout_for
none_is others [] code h = (h, refl)
none_is others (l ∷ ls) code h =
    let r = none_is (others × (code ≡ l.code → ⊥)) ls code h in
    (r.0.0, rw (ne_eqb l.code code (λ e. r.0.1 (sym e))) r.1)

pub unknown : (ls : List Layout) (s out : List ℕ) → Unlike (Unit {0}) ls (get_or s 0 0) → (Malformed ≡ answer_among ls s out) × (out ≡ echoed_among ls s out)
unfolding answer_among echoed_among
unknown ls s out h = rw (none_is (Unit {0}) ls (get_or s 0 0) h).1 (refl, refl)
