-- The fewest decimal digits that hold a number are counted by dividing it by ten until it is a digit. Assumes nothing.
use Rattle.octets.proofs.Proving.{Bool, ◌*◌, ◌+◌, ◌-◌, ◌/◌, ◌<◌, ◌^◌, ◌∙◌, ◌≡◌, ◌≤◌, ap, arith, div-lt_iff_lt-mul, false, le-div_iff_mul-le, le-ltb, leb, leb-false, leb-true, length, length-append, lit<, lt-ltb, not-suc-le-zero, pow-le-pow_right, pow-suc, refl, subst, suc, sym, true, zero, ℕ}
use Rattle.io.specs.Digits.{last_digits, IsDigitCount}
use Rattle.listing.specs.Lines.{places_within, decimal}
use Rattle.listing.specs.Drawing.{cells}

-- what takes one digit more than suc j is at least the lowest number that does
least : (n j : ℕ) → IsDigitCount 10 1 n (suc (suc j)) → 10 ^ j * 10 ≤ n
least n j f =
    let one_less : suc (suc j) - 1 ≡ suc j = omega arith in
    subst (λ (p : ℕ). p ≤ n) (ap (λ (m : ℕ). 10 ^ m) one_less ∙ pow-suc 10 j) (f.2 (omega arith))

-- one digit less holds a tenth of the number
tenth : (n j : ℕ) → IsDigitCount 10 1 n (suc (suc j)) → IsDigitCount 10 1 (n / 10) (suc j)
tenth n j f =
    let one_less : suc j - 1 ≡ j = omega arith in (
      omega arith,
      (div-lt_iff_lt-mul (lit< tt)).1 (subst (λ (p : ℕ). n < p) (pow-suc 10 (suc j)) f.1),
      λ h. subst (λ (m : ℕ). 10 ^ m ≤ n / 10) (sym one_less) ((le-div_iff_mul-le (lit< tt)).1 (least n j f)),
    )

-- a number that takes two digits or more is no digit
no_digit : (n j : ℕ) → IsDigitCount 10 1 n (suc (suc j)) → 10 ≤ n
no_digit n j f =
    let some : 1 ≤ 10 ^ j = pow-le-pow_right {n = 10} (lit< tt) {i = 0} {j = j} (omega arith) in
    omega (arith, least n j f)

pub fewest-places : (more n k : ℕ) → k ≤ suc more → IsDigitCount 10 1 n k → k ≡ places_within more n
unfolding places_within
fewest-places more n zero h f = absurd (not-suc-le-zero f.0)
fewest-places zero n (suc zero) h f = refl
fewest-places (suc more) n (suc zero) h f = simp (lt-ltb _ _ f.1)
fewest-places zero n (suc (suc j)) h f = absurd (omega arith)
fewest-places (suc more) n (suc (suc j)) h f =
    simp (le-ltb _ _ (no_digit n j f)) (ap suc (fewest-places more (n / 10) (suc j) (omega arith) (tenth n j f)))

pub length_digits : (b k n : ℕ) → length (last_digits b k n) ≡ k
length_digits b zero n = refl
length_digits b (suc k) n = length-append (last_digits b k (n / b)) _ ∙ ap (λ (m : ℕ). m + 1) (length_digits b k (n / b)) ∙ omega arith

-- twenty digits hold every number below 2 ^ 64
pub at-most-twenty : (n k : ℕ) → n < 2 ^ 64 → IsDigitCount 10 1 n k → k ≤ 20
at-most-twenty n k h f = by (leb k 20) refl
  where
    by : (b : Bool) → leb k 20 ≡ b → k ≤ 20
    by true e = leb-true _ _ e
    by false e =
        let long : 20 < k = leb-false _ _ e in
        let big : 10 ^ 20 ≤ 10 ^ (k - 1) = pow-le-pow_right {n = 10} (lit< tt) {i = 20} {j = k - 1} (omega arith) in
        let held : 10 ^ (k - 1) ≤ n = f.2 (omega arith) in
        let room : 2 ^ 64 < 10 ^ 20 = lit< tt in
        absurd (omega arith)

-- the text that `io` writes is the definition's, and no longer than twenty bytes
pub decimal-text : (n k : ℕ) → k ≤ 20 → IsDigitCount 10 1 n k → last_digits 10 k n ≡ decimal n
unfolding decimal
decimal-text n k h f = ap (λ (m : ℕ). last_digits 10 m n) (fewest-places 19 n k h f)

pub decimal-long : (n k : ℕ) → k ≤ 20 → IsDigitCount 10 1 n k → length (decimal n) ≡ k
decimal-long n k h f = ap length (sym (decimal-text n k h f)) ∙ length_digits 10 k n

pub length-cells : (size at held k : ℕ) → length (cells size at held k) ≡ k
unfolding cells
length-cells size at held zero = refl
length-cells size at held (suc k) = length-append (cells size at held k) _ ∙ ap (λ (m : ℕ). m + 1) (length-cells size at held k) ∙ omega arith
