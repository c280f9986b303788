-- What the language's counts say of a number's bits, over every width: the ones are the bits that are set, the trailing zeros end at the first of
-- them. A step of each is one halving. Assumes nothing.
use Rattle.octets.proofs.Proving.{Bool, ◌%◌, ◌+◌, ◌/◌, ◌<◌, ◌^◌, ◌∙◌, ◌≡◌, ◌≤◌, ap, ap₂, arith, eqb, false, lit<, mod-lt, pow-suc, refl, suc, sym, true, zero, ℕ}
use lib.Count.{ones, ones_step, count_trailing_zeros, under}
use lib.Pow.{pow_pos}
use Rattle.octets.specs.Choice.{pick, count_below, first_from, first_below}
use Rattle.octets.specs.Bits.{bit_of, with_bit}
use Rattle.octets.proofs.BitLaws.{bit-zero, with-off}
use Rattle.bitrow.proofs.Halves.{count-first}

-- the lowest bit is what halving leaves
lowest : (b : ℕ) → pick (bit_of b 0) 1 0 ≡ b % 2
unfolding with_bit
lowest b = omega (arith, with-off b 0)

-- ---- the two counts

pub ones-count : (w b : ℕ) → b < 2 ^ w → ones b ≡ count_below w (bit_of b)
unfolding ones count_below bit_of
ones-count zero b h = let e : b ≡ 0 = omega arith in ap ones e
ones-count (suc w) b h =
    let half : b / 2 < 2 ^ w = omega (arith, pow-suc 2 w) in
    ones_step b ∙ ap₂ ◌+◌ (sym (lowest b)) (ones-count w (b / 2) half) ∙ sym (count-first (bit_of b) w)

-- the first of the numbers behind the first
first-later : (p : ℕ → Bool) (left i : ℕ) → first_from p left (suc i) ≡ suc (first_from (λ k. p (suc k)) left i)
unfolding first_from
first-later p zero i = refl
first-later p (suc left) i =
    let e : suc i + 1 ≡ suc (i + 1) = omega arith in
    ap (λ (k : ℕ). pick (p (suc i)) (suc i) (first_from p left k)) e ∙ ap (pick (p (suc i)) (suc i)) (first-later p left (i + 1))
    ∙ inside (p (suc i)) (first_from (λ k. p (suc k)) left (i + 1))
  where
    inside : (b : Bool) (r : ℕ) → pick b (suc i) (suc r) ≡ suc (pick b i r)
    inside true r = refl
    inside false r = refl

-- Of any number: bits past the width are not looked at.
pub trailing-first : (w b : ℕ) → count_trailing_zeros w b ≡ first_below w (bit_of b)
unfolding count_trailing_zeros first_below first_from bit_of
trailing-first zero b = refl
trailing-first (suc w) b =
    here (b % 2) (mod-lt b (lit< tt)) (count_trailing_zeros w (b / 2))
    ∙ ap (pick (bit_of b 0) 0) (ap suc (trailing-first w (b / 2)) ∙ sym (first-later (bit_of b) w 0))
  where
    here : (r : ℕ) → r < 2 → (t : ℕ) → under r t ≡ pick (eqb r 1) 0 (suc t)
    here zero h t = refl
    here (suc zero) h t = refl
    here (suc (suc r)) h t = absurd (omega arith)

-- ---- numbers told by their bits

pub bits-only : (w a b : ℕ) → a < 2 ^ w → b < 2 ^ w → ((j : ℕ) → j < w → bit_of a j ≡ bit_of b j) → a ≡ b
unfolding bit_of
bits-only zero a b h g same = omega arith
bits-only (suc w) a b h g same =
    let halves : a / 2 ≡ b / 2 =
    bits-only w (a / 2) (b / 2) (omega (arith, pow-suc 2 w)) (omega (arith, pow-suc 2 w)) (λ j l. same (suc j) (omega arith)) in
    omega (arith, halves, lowest a, lowest b, ap {B = ℕ} (λ (t : Bool). pick t 1 0) (same 0 (omega arith)))

-- none of its bits is set
pub no_bits : (w b : ℕ) → b < 2 ^ w → ((j : ℕ) → j < w → bit_of b j ≡ false) → b ≡ 0
no_bits w b h none = bits-only w b 0 h (pow_pos w) (λ j l. none j l ∙ sym (bit-zero j))

-- none is set from bit k on
pub no-bits-from : (w b k : ℕ) → b < 2 ^ w → ((j : ℕ) → k ≤ j → bit_of b j ≡ false) → b < 2 ^ k
unfolding bit_of
no-bits-from w b zero h none = omega (arith, no_bits w b h (λ j l. none j (omega arith)))
no-bits-from w b (suc k) h none =
    omega (arith, pow-suc 2 k, no-bits-from w (b / 2) k (omega arith) (λ j l. none (suc j) (omega arith)))
