-- What judging a record comes to: the tests that the code makes, all of them and no others. Assumes nothing.
use Rattle.octets.proofs.Proving.{Bool, List, ◌&&◌, ◌+◌, ◌||◌, ◌∙◌, ◌≡◌, ◌≤◌, and_assoc, and-true, ap, ap₂, drop, eqb, eqb-true, false, get_or, leb, length, ne_eqb, or-false, refl, sym, true, ℕ}
use Rattle.std.specs.Prelude.{None}
use Rattle.octets.specs.Choice.{◌⇒◌⨾◌, all_below}
use Rattle.octets.specs.Bytes.{part, all_are}
use Rattle.octets.proofs.Laws.{length_part}
use Rattle.octets.proofs.Below.{all-part}
use Rattle.wire.specs.Text.{token_byte}
use Rattle.wire.specs.Letters.{live, dead, rejected_token}
use Rattle.wire.specs.Limits.{token_size}
use Rattle.wire.specs.Layout.{bad_token_byte, bad_place, first_bad_place, no_bad_place}
use Rattle.wire.proofs.NoneBad.{legal_token, none-of-both, token-bytes}
use Rattle.orders.specs.Order.{Order, record_layout, order_of}
use Rattle.orders.specs.Sound.{state_sound, counted_sound}

-- ---- a record's token

-- a byte of a record that stands outside its token, or is legal there
abbrev pub token_place : List ℕ → ℕ → Bool
token_place r k = eqb k 0 || leb 15 k || token_byte (get_or r k 0)

thirty_two : (r : List ℕ) → all_below 32 (token_place r) ≡ all_below 14 (λ k. token_byte (get_or r (1 + k) 0))
unfolding all_below
thirty_two r = simp and-true

pub record-token : (r : List ℕ) → no_bad_place record_layout r ≡ legal_token (order_of r).token
unfolding no_bad_place first_bad_place bad_place order_of
record-token r = none-of-both (bad_token_byte 1 (part r 1 14)) None ∙ and-true _ ∙ token-bytes 1 (part r 1 14)

-- 32 bytes of the record are asked instead of the token's 14
pub token-tests : (r : List ℕ) → 15 ≤ length r → all_below 32 (token_place r) ≡ no_bad_place record_layout r
unfolding order_of
token-tests r h =
    thirty_two r
    ∙ all-part token_byte r 1 14
    ∙ ap (λ (n : ℕ). all_below n (λ k. token_byte (get_or (part r 1 14) k 0))) (sym (length_part r 1 14 h))
    ∙ sym (record-token r)

-- ---- a record's state

-- two cases that exclude each other, where the third is not asked
two_cases : (l d r x y z : Bool) → (l ≡ true → d ≡ false) → r ≡ false → (l ⇒ x ⨾ d ⇒ y ⨾ r ⇒ z ⨾ false) ≡ (l && x || d && y)
two_cases true d r x y z apart off = sym (rw (apart refl) (or-false x))
two_cases false true r x y z apart off = refl
two_cases false false r x y z apart off = rw off

module _ (s : List ℕ) (o : Order) where
  pub state-rejected : o.state ≡ rejected_token → state_sound s o ≡ all_are 0 (drop (1 + token_size) s)
  unfolding state_sound
  state-rejected e = rw e

  pub state-counted : (o.state ≡ rejected_token → ⊥)
      → state_sound s o ≡ counted_sound o.state o.shares
  unfolding state_sound counted_sound
  state-counted n =
      two_cases _ _ _ _ _ _ (λ e. ap (λ (k : ℕ). eqb k dead) (eqb-true o.state live e)) (ne_eqb o.state rejected_token n)
      ∙ ap₂ ◌||◌ (sym (and_assoc (eqb o.state live) _ _)) (sym (and_assoc (eqb o.state dead) _ _))
