-- What the sixteen layouts have in common: none is longer than the longest message, none leaves a gap, and each type is a byte.
-- Assumes nothing.
use Rattle.octets.proofs.Proving.{[], ap, ap₂, arith, Bool, dec_lt, eqb, false, get_or, le-ltb, leb, leb-true, length, List, List·get_d-eq-default, ltb, ltb-true, map, refl, T, take, true, ℕ, ◌&&◌, ◌+◌, ◌<◌, ◌||◌, ◌∷◌, ◌≡◌, ◌≤◌}
use Rattle.octets.proofs.Below.{all-at, both}
use Rattle.octets.specs.Choice.{all_below}
use Rattle.wire.specs.Limits.{longest_message}
use Rattle.std.specs.Prelude.{None}
use Rattle.answers.specs.Answer.{Done, if_done, is_done}
use Rattle.wire.specs.Layout.{Layout, Field, shifted, first_bad_place, unbroken, well_laid}
use Rattle.wire.specs.Messages.{messages, no_message, message_layout, framed, read_answer, write_answer, buffer_after}

-- ---- a test of every number below n that antt computes

Tests : (ℕ → Bool) → ℕ → Type 0
Tests p n = (k : ℕ) → k < n → p k ≡ true

tested : (p : ℕ → Bool) (n : ℕ) → all_below n p ≡ true → Tests p n
unfolding Tests
tested p n t k h = all-at p n k t h

-- no message has a number from 16 on
pub unnumbered : (k : ℕ) → 16 ≤ k → message_layout k ≡ no_message
unnumbered k h = List·get_d-eq-default messages no_message {n = k} h

pub no_length : (k : ℕ) → 16 ≤ k → (message_layout k).size ≡ 0
no_length k h = ap (λ (l : Layout). l.size) (unnumbered k h)

pub no-type : (k : ℕ) → 16 ≤ k → (message_layout k).code ≡ 0
no-type k h = ap (λ (l : Layout). l.code) (unnumbered k h)

pub no-message-place : (k : ℕ) (s : List ℕ) → 16 ≤ k → first_bad_place (message_layout k).fields s ≡ None
unfolding first_bad_place
no-message-place k s h = ap (λ (l : Layout). first_bad_place l.fields s) (unnumbered k h)

-- and what has such a number is read from nothing, and sent as nothing
pub unread : (k : ℕ) (s : List ℕ) → message_layout k ≡ no_message → framed 0 0 s ≡ true → Done ≡ read_answer (message_layout k) s
unfolding read_answer first_bad_place
unread k s e h =
    let (long, first) = both (eqb (length s) 0) (eqb (get_or s 0 0) 0) h in
    rw (e, long, first) refl

pub unsent : (k : ℕ) (spelled buffer : List ℕ) → message_layout k ≡ no_message
    → (Done ≡ write_answer (message_layout k) (take (message_layout k).size spelled) buffer)
    × (buffer ≡ buffer_after (message_layout k) (take (message_layout k).size spelled) buffer)
unfolding write_answer buffer_after first_bad_place if_done is_done
unsent k spelled buffer e =
    let none : ltb (length buffer) 0 ≡ false = le-ltb (length buffer) 0 (omega arith) in
    rw (e, none) (refl, refl)

-- none is longer than the longest
pub at-most-longest : (k : ℕ) → (message_layout k).size ≤ longest_message
unfolding all_below Tests
at-most-longest k =
    elim (dec_lt k 16) [
      | yes h ↦ leb-true _ _ (tested (λ (i : ℕ). leb (message_layout i).size longest_message) 16 refl k h)
      | no h ↦ omega (arith, no_length k (omega arith))
    ]

-- what is asked of a layout, computed once for the sixteen: its fields leave no gap, and its type is a byte
laid : Layout → Bool
laid l = well_laid l && ltb l.code 256

pub well-laid : (k : ℕ) → k < 16 → (well_laid (message_layout k) ≡ true) × ((message_layout k).code < 256)
unfolding all_below Tests laid well_laid unbroken
well-laid k h =
    let a = both (well_laid (message_layout k)) _ (tested (λ (j : ℕ). laid (message_layout j)) 16 refl k h) in
    (a.0, ltb-true (message_layout k).code 256 a.1)

-- every message of a client has room for a token
pub inbound-long : (k : ℕ) → k < 4 → 15 ≤ (message_layout k).size
unfolding all_below Tests
inbound-long k h = leb-true _ _ (tested (λ (i : ℕ). leb 15 (message_layout i).size) 4 refl k h)

-- what stands no bytes further on stands where it stood
pub unmoved : (fs : List Field) → map (shifted 0) fs ≡ fs
unmoved [] = refl
unmoved (f ∷ fs) =
    let same : f.at + 0 ≡ f.at = omega arith in
    ap₂ (λ (at : ℕ) (gs : List Field). record { at = at; width = f.width; form = f.form; rule = f.rule } ∷ gs) same (unmoved fs)

-- the messages from number 5 on have room for a stamp and a token
pub long : (k : ℕ) → 4 < k → k < 16 → 23 ≤ (message_layout k).size
unfolding all_below Tests
long k l h = leb-true _ _ (either _ _ (tested (λ (i : ℕ). ltb i 5 || leb 23 (message_layout i).size) 16 refl k h) (le-ltb k 5 l))
  where
    either : (x y : Bool) → (x || y) ≡ true → x ≡ false → y ≡ true
    either true y e f = let z : ◌≡◌ {A = ℕ} 0 1 = cc in absurd (omega arith)
    either false y e f = e
