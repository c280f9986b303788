-- A reader's answers are given exactly when the paper says: 0 to the legal messages, 2 to those of another length or type, 3 to the rest, with
-- the smallest offset of a bad byte.
-- Assumes nothing.
use Rattle.octets.proofs.Proving.{Bool, List, ◌<◌, ◌∙◌, ◌≡◌, arith, eqb, eqb-false, eqb-true, false, get_or, length, ltb, refl, sym, true, ℕ, ⊎_elim}
use Rattle.std.specs.Prelude.{Option, None, Some}
use Rattle.octets.specs.Choice.{◌⇒◌⨾◌}
use Rattle.answers.specs.Answer.{Done, Malformed, BadField, NoRoom}
use Rattle.octets.specs.Bytes.{part, number_of}
use Rattle.wire.specs.Letters.{sides, sweeps}
use Rattle.wire.specs.Limits.{stamp_end, token_size}
use Rattle.wire.specs.Layout.{Layout, stamp_at, token_at, side_at, sweep_at, first_bad_place, well_laid}
use Rattle.wire.specs.Messages.{bad_at◌⨾◌, read_answer, write_answer}
use Rattle.wire.specs.Legal.{LetterDigitOrSpace, OneOf, Obeys, ◌∈◌, Legal, FirstBad, ◌exactly_when◌, PlaceWith3}
use Rattle.wire.proofs.Says.{seen}
use Rattle.wire.proofs.Verdicts.{wrong-length, wrong_type, judged, bad-field, legal}
use Rattle.wire.proofs.BadPlaces.{all-obey, no-bad-place, first-from}
use Rattle.wire.proofs.Told.{told-exactly, place-with-3}

-- the three ways that a reading can go
pub data Way (l : Layout) (s : List ℕ) : Type 0 where
  malformed : read_answer l s ≡ Malformed → ((length s ≡ l.size) × (get_or s 0 0 ≡ l.code) → ⊥) → Way l s
  bad : (at : ℕ) → read_answer l s ≡ BadField at → length s ≡ l.size → get_or s 0 0 ≡ l.code → Way l s
  done : read_answer l s ≡ Done → Legal l s → Way l s

module _ (l : Layout) (s : List ℕ) where
  by_place : length s ≡ l.size → get_or s 0 0 ≡ l.code → (o : Option ℕ) → first_bad_place l.fields s ≡ o → Way l s
  by_place e t None p = done (legal l s e t p) (record { long = e; typed = t; judged = all-obey l.fields s p })
  by_place e t (Some i) p = bad i (bad-field l s e t p) e t

  pub way : Way l s
  way =
      ⊎_elim
      (λ e.
      ⊎_elim
      (λ t. by_place (eqb-true _ _ e) (eqb-true _ _ t) (first_bad_place l.fields s) refl)
      (λ t. malformed (wrong_type l s (eqb-true _ _ e) (eqb-false _ _ t)) (λ h. eqb-false _ _ t h.1))
      (seen (eqb (get_or s 0 0) l.code)))
      (λ e. malformed (wrong-length l s (eqb-false _ _ e)) (λ h. eqb-false _ _ e h.0))
      (seen (eqb (length s) l.size))

  pub done-exactly : (read_answer l s ≡ Done) exactly_when Legal l s
  done-exactly = (λ a. from a way, λ h. legal l s h.long h.typed (no-bad-place l.fields s h.judged))
    where
      from : read_answer l s ≡ Done → Way l s → Legal l s
      from a (malformed e h) = let z : ◌≡◌ {A = ℕ} 0 1 = cc in absurd (omega arith)
      from a (bad i e h t) = let z : ◌≡◌ {A = ℕ} 0 1 = cc in absurd (omega arith)
      from a (done e h) = h

  pub malformed-exactly : (read_answer l s ≡ Malformed) exactly_when ((length s ≡ l.size) × (get_or s 0 0 ≡ l.code) → ⊥)
  malformed-exactly = (λ a. from a way, λ h. to h way)
    where
      from : read_answer l s ≡ Malformed → Way l s → (length s ≡ l.size) × (get_or s 0 0 ≡ l.code) → ⊥
      from a (malformed e h) = h
      from a (bad i e h t) = let z : ◌≡◌ {A = ℕ} 0 1 = cc in absurd (omega arith)
      from a (done e h) = let z : ◌≡◌ {A = ℕ} 0 1 = cc in absurd (omega arith)

      to : ((length s ≡ l.size) × (get_or s 0 0 ≡ l.code) → ⊥) → Way l s → read_answer l s ≡ Malformed
      to h (malformed e g) = e
      to h (bad i e g t) = absurd (h (g, t))
      to h (done e g) = absurd (h (g.long, g.typed))

  module _ (well : well_laid l ≡ true) where
    pub bad-field-exactly : (at : ℕ) → (read_answer l s ≡ BadField at) exactly_when (((length s ≡ l.size) × (get_or s 0 0 ≡ l.code)) × FirstBad l.fields s at)
    unfolding well_laid
    bad-field-exactly at = (λ a. from a way, λ h. judged l s h.0.0 h.0.1 ∙ told.1 h.1)
      where
        told : ((bad_at first_bad_place l.fields s ⨾ Done) ≡ BadField at) exactly_when FirstBad l.fields s at
        told = told-exactly l.fields l.size well s Done (λ i e. let z : ◌≡◌ {A = ℕ} 0 1 = cc in omega arith) at

        from : read_answer l s ≡ BadField at → Way l s → ((length s ≡ l.size) × (get_or s 0 0 ≡ l.code)) × FirstBad l.fields s at
        from a (malformed e h) = let z : ◌≡◌ {A = ℕ} 0 1 = cc in absurd (omega arith)
        from a (bad i e h t) = ((h, t), told.0 (sym (judged l s h t) ∙ a))
        from a (done e h) = let z : ◌≡◌ {A = ℕ} 0 1 = cc in absurd (omega arith)

    pub read-place : PlaceWith3 (read_answer l s)
    unfolding well_laid
    read-place = place-with-3 (read_answer l s) (λ at a. first-from l.fields s 1 l.size well ((bad-field-exactly at).0 a).1)

-- a writer's, of the bytes that it is to write
module _ (l : Layout) (well : well_laid l ≡ true) (m buffer : List ℕ) where
  pub write-bad-exactly : (at : ℕ) → (write_answer l m buffer ≡ BadField at) exactly_when FirstBad l.fields m at
  unfolding well_laid write_answer
  write-bad-exactly at = told-exactly l.fields l.size well m _ (λ i e. other (ltb (length buffer) l.size) e) at
    where
      other : (b : Bool) {i : ℕ} → (b ⇒ NoRoom ⨾ Done) ≡ BadField i → ⊥
      other true e = let z : ◌≡◌ {A = ℕ} 0 1 = cc in omega arith
      other false e = let z : ◌≡◌ {A = ℕ} 0 1 = cc in omega arith

  pub write-place : PlaceWith3 (write_answer l m buffer)
  unfolding well_laid
  write-place = place-with-3 (write_answer l m buffer) (λ at a. first-from l.fields m 1 l.size well ((write-bad-exactly at).0 a))

-- ---- a legal message's fields, in the paper's words

module _ (l : Layout) (s : List ℕ) (h : Legal l s) (at : ℕ) where
  pub stamp-below-end : stamp_at at ∈ l.fields → number_of (part s at 8) < stamp_end
  unfolding Obeys
  stamp-below-end m = h.judged (stamp_at at) m

  pub token-characters : token_at at ∈ l.fields → (i : ℕ) → i < length (part s at token_size) → LetterDigitOrSpace (get_or (part s at token_size) i 0)
  unfolding Obeys
  token-characters m = h.judged (token_at at) m

  pub side-letter : side_at at ∈ l.fields → OneOf sides (number_of (part s at 1))
  unfolding Obeys
  side-letter m = h.judged (side_at at) m

  pub sweep-letter : sweep_at at ∈ l.fields → OneOf sweeps (number_of (part s at 1))
  unfolding Obeys
  sweep-letter m = h.judged (sweep_at at) m
