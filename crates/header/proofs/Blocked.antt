-- The blocked firms: a listed firm has a bit of its own, a block changes that bit alone, and none comes past the firm count (Ask 5). Assumes
-- nothing.
use Rattle.octets.proofs.Proving.{Bool, List, [], ◌&&◌, ◌<◌, ◌^◌, ◌∙◌, ◌∷◌, ◌≡◌, ◌≢◌, ◌≤◌, ap, arith, dec_lt, eqb, eqb-true, false, false≢true, le-ltb, lt-ltb, lit<, ltb, ltb-true, min, pow-le-pow_right, refl, subst, sym, true, ℕ}
use Rattle.octets.specs.Bytes.{same, all_are}
use Rattle.octets.specs.Bits.{bit_of, with_bit}
use Rattle.octets.proofs.Below.{both, all-at, some-none, same_true}
use Rattle.octets.proofs.First.{first-is, some_first}
use Rattle.octets.proofs.BitLaws.{with-same, with-other, with-lt}
use Rattle.wire.specs.Letters.{space}
use Rattle.wire.specs.Text.{capital, capitals_then_spaces, shaped}
use Rattle.header.specs.Limits.{most_firms}
use Rattle.header.specs.Header.{Header}
use Rattle.header.specs.Firms.{firm_at, is_blank, is_listed, firm_place, blocked_with, firms_shaped}

-- ---- the place

module _ (h : Header) (firm : List ℕ) where
  here : ℕ → Bool
  here k = same (firm_at h.firms k) firm

  -- one search says whether and where
  pub listed_below : is_listed h firm ≡ ltb (firm_place h firm) h.count
  unfolding is_listed firm_place here
  listed_below = some_first here h.count

  pub place-listed : is_listed h firm ≡ true → firm_place h firm < h.count
  place-listed listed = ltb-true (firm_place h firm) h.count (sym listed_below ∙ listed)

  -- and it is the firm that stands there
  pub firm-there : is_listed h firm ≡ true → firm_at h.firms (firm_place h firm) ≡ firm
  unfolding firm_place here
  firm-there listed = same_true (firm_at h.firms (firm_place h firm)) firm (first-is here h.count (place-listed listed)).holds

-- so two firms don't share a place
pub places-apart : (h : Header) (firm other : List ℕ) → is_listed h firm ≡ true → is_listed h other ≡ true → other ≢ firm
    → firm_place h other ≢ firm_place h firm
places-apart h firm other listed listed' d e = d (sym (firm-there h other listed') ∙ ap (firm_at h.firms) e ∙ firm-there h firm listed)

-- ---- the bits

module _ (h : Header) (place : ℕ) (on : Bool) where
  changed : place < min h.count most_firms → blocked_with h place on ≡ with_bit h.blocked place on
  unfolding blocked_with
  changed l = rw (lt-ltb place (min h.count most_firms) l)

  unchanged : min h.count most_firms ≤ place → blocked_with h place on ≡ h.blocked
  unfolding blocked_with
  unchanged g = rw (le-ltb place (min h.count most_firms) g)

  -- what is true of the bits as they are, and with that of the place where a firm is listed there
  either : (P : ℕ → Type 0) → P h.blocked → (place < h.count → P (with_bit h.blocked place on)) → P (blocked_with h place on)
  either P same moved =
      elim (dec_lt place (min h.count most_firms)) [
        | yes l ↦ subst P (sym (changed l)) (moved (omega arith))
        | no g ↦ subst P (sym (unchanged (omega arith))) same
      ]

  -- every other bit stays
  pub blocked-other : (j : ℕ) → j ≢ place → bit_of (blocked_with h place on) j ≡ bit_of h.blocked j
  blocked-other j d = either (λ b. bit_of b j ≡ bit_of h.blocked j) refl λ _. with-other h.blocked place j on d

  -- and none comes past the count
  pub blocked-lt : h.blocked < 2 ^ h.count → blocked_with h place on < 2 ^ h.count
  blocked-lt l = either (λ b. b < 2 ^ h.count) l λ k. with-lt h.count h.blocked place on k l

  -- a listed firm's own is as said
  pub blocked-own : place < h.count → h.count ≤ most_firms → bit_of (blocked_with h place on) place ≡ on
  blocked-own listed most = ap (λ (b : ℕ). bit_of b place) (changed (omega arith)) ∙ with-same h.blocked place on

-- bits below the count fit a byte
pub in-byte : (h : Header) → h.count ≤ most_firms → h.blocked < 2 ^ h.count → h.blocked < 256 ^ 1
in-byte h most l = omega (arith, l, pow-le-pow_right {n = 2} (lit< tt) {i = h.count} {j = most_firms} most)

-- ---- a blank firm

unshaped : (firm : List ℕ) → all_are space firm ≡ true → shaped firm ≡ false
unfolding all_are shaped capital
unshaped [] e = refl
unshaped (b ∷ bs) e = ap (λ (x : ℕ). capital x && capitals_then_spaces bs) (eqb-true b space (both (eqb b space) (all_are space bs) e).0)

-- is listed nowhere: each listed firm has a capital
pub blank-unlisted : (h : Header) (firm : List ℕ) → firms_shaped h.firms h.count ≡ true → is_blank firm ≡ true → is_listed h firm ≡ false
unfolding firms_shaped is_blank is_listed
blank-unlisted h firm shapely blank = some-none (λ k. same (firm_at h.firms k) firm) h.count (λ k l. differs k l _ refl)
  where
    differs : (k : ℕ) → k < h.count → (b : Bool) → same (firm_at h.firms k) firm ≡ b → b ≡ false
    differs k l false e = refl
    differs k l true e =
        absurd (false≢true (sym (unshaped firm blank) ∙ ap shaped (sym (same_true (firm_at h.firms k) firm e)) ∙ all-at (λ j. shaped (firm_at h.firms j)) h.count k shapely l))
