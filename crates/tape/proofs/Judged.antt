-- Every entry is judged as its kind's layout says, the place of its first bad byte included. Assumes nothing.
use Rattle.octets.proofs.Proving.{Bool, List, ◌<◌, ◌∙◌, ◌≡◌, arith, false, refl, sym, true, ℕ}
use Rattle.std.specs.Prelude.{Option, None, Some}
use Rattle.answers.specs.Answer.{Malformed, BadField, Done}
use Rattle.wire.specs.Legal.{FirstBad, ◌exactly_when◌}
use Rattle.wire.specs.Messages.{bad_at◌⨾◌}
use Rattle.wire.proofs.BadPlaces.{first-from}
use Rattle.wire.proofs.Told.{told-exactly, place-with-3}
use Rattle.tape.specs.Kinds.{kind_of, layout_of}
use Rattle.tape.specs.Entries.{well_formed, bad_place_of, entry_answer}
use Rattle.tape.specs.Judged.{Judged}
use Rattle.tape.proofs.Formed.{formed, well-laid, answer-malformed}

module _ (s : List ℕ) where
  looked-at : well_formed s ≡ true → entry_answer s ≡ (bad_at bad_place_of s ⨾ Done)
  unfolding entry_answer
  looked-at w = rw w

  first-told : well_formed s ≡ true → (at : ℕ) → (entry_answer s ≡ BadField at) exactly_when FirstBad (layout_of (kind_of s)).fields s at
  unfolding bad_place_of
  first-told w at =
      let l = layout_of (kind_of s) in
      let told = told-exactly l.fields l.size (well-laid (kind_of s) (formed s w).known) s Done (λ i e. let z : ◌≡◌ {A = ℕ} 0 1 = cc in omega arith) at in
      (λ a. told.0 (sym (looked-at w) ∙ a), λ b. looked-at w ∙ told.1 b)

  told-well-formed : (at : ℕ) → entry_answer s ≡ BadField at → well_formed s ≡ true
  told-well-formed at a = go (well_formed s) refl
    where
      go : (b : Bool) → well_formed s ≡ b → well_formed s ≡ true
      go true e = e
      go false e = let f = answer-malformed s e in let z : ◌≡◌ {A = ℕ} 0 1 = cc in absurd (omega arith)

  bad-exactly : (at : ℕ) → (entry_answer s ≡ BadField at) exactly_when ((well_formed s ≡ true) × FirstBad (layout_of (kind_of s)).fields s at)
  bad-exactly at = (λ a. let w = told-well-formed at a in (w, (first-told w at).0 a), λ h. (first-told h.0 at).1 h.1)

  malformed-not : well_formed s ≡ true → entry_answer s ≡ Malformed → ⊥
  malformed-not w a = go (bad_place_of s) (sym (looked-at w) ∙ a)
    where
      go : (o : Option ℕ) → (bad_at o ⨾ Done) ≡ Malformed → ⊥
      go None e = let z : ◌≡◌ {A = ℕ} 0 1 = cc in omega arith
      go (Some at) e = let z : ◌≡◌ {A = ℕ} 0 1 = cc in omega arith

  malformed-when : (well_formed s ≡ true → ⊥) → entry_answer s ≡ Malformed
  malformed-when h = go (well_formed s) refl
    where
      go : (b : Bool) → well_formed s ≡ b → entry_answer s ≡ Malformed
      go true e = absurd (h e)
      go false e = sym (answer-malformed s e)

  -- no judged field lies at 0
  pub bad-from-1 : (at : ℕ) → entry_answer s ≡ BadField at → 0 < at
  bad-from-1 at a =
      let b = (bad-exactly at).0 a in
      let l = layout_of (kind_of s) in
      first-from l.fields s 1 l.size (well-laid (kind_of s) (formed s b.0).known) b.1

  pub entry-judged : Judged s
  entry-judged = record {
    malformed = (λ a w. malformed-not w a, malformed-when);
    bad-field = bad-exactly;
    place-0 = place-with-3 (entry_answer s) bad-from-1;
  }
