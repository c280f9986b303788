-- The laws of how many numbers below a bound pass a test: tests that agree have one count, a test that fails at one place more has one fewer, and
-- none pass just where the count is 0. Assumes nothing.
use Rattle.octets.proofs.Proving.{Bool, ◌+◌, ◌<◌, ◌∙◌, ◌≡◌, ◌≢◌, ap, ap₂, arith, false, refl, suc, sym, true, zero, ℕ, ℕ_discrete}
use Rattle.octets.specs.Choice.{pick, count_below}

-- what a number that passes or does not adds
abbrev one : Bool → ℕ
one passes = pick passes 1 0

-- tests that agree below the bound
pub count_same : (p q : ℕ → Bool) (n : ℕ) → ((k : ℕ) → k < n → p k ≡ q k) → count_below n p ≡ count_below n q
unfolding count_below
count_same p q zero agree = refl
count_same p q (suc n) agree =
    ap₂ (λ (m : ℕ) (b : Bool). m + one b) (count_same p q n (λ k l. agree k (omega arith))) (agree n (omega arith))

-- tests that agree but at i, where the first holds and the second does not
pub count-fewer : (p q : ℕ → Bool) (n i : ℕ) → i < n → p i ≡ true → q i ≡ false → ((k : ℕ) → k < n → k ≢ i → p k ≡ q k)
    → count_below n p ≡ suc (count_below n q)
unfolding count_below
count-fewer p q zero i h holds fails agree = absurd (omega arith)
count-fewer p q (suc n) i h holds fails agree =
    elim (ℕ_discrete i n) [
      | yes e ↦
          let below : count_below n p ≡ count_below n q = count_same p q n (λ k l. agree k (omega arith) (λ f. omega arith)) in
          let some : one (p n) ≡ 1 = ap one (ap p (sym e) ∙ holds) in
          let none : one (q n) ≡ 0 = ap one (ap q (sym e) ∙ fails) in
          omega (arith, below, some, none)
      | no d ↦
          let below : count_below n p ≡ suc (count_below n q) = count-fewer p q n i (omega arith) holds fails (λ k l. agree k (omega arith)) in
          let last : one (p n) ≡ one (q n) = ap one (agree n (omega arith) (λ f. d (sym f))) in
          omega (arith, below, last)
    ]

-- one that passes is counted
pub count-some : (p : ℕ → Bool) (n k : ℕ) → k < n → p k ≡ true → 0 < count_below n p
unfolding count_below
count-some p zero k h e = absurd (omega arith)
count-some p (suc n) k h e =
    elim (ℕ_discrete k n) [
      | yes q ↦ let some : one (p n) ≡ 1 = ap one (ap p (sym q) ∙ e) in omega (arith, some)
      | no d ↦ omega (arith, count-some p n k (omega arith) e)
    ]

-- so where none is counted, none passes
pub count_none : (p : ℕ → Bool) (n : ℕ) → count_below n p ≡ 0 → (k : ℕ) → k < n → p k ≡ false
count_none p n none k h = fails (p k) refl
  where
    fails : (b : Bool) → p k ≡ b → b ≡ false
    fails true e = absurd (omega (arith, count-some p n k h e))
    fails false e = refl

-- and where none passes, none is counted
pub count-zero : (p : ℕ → Bool) (n : ℕ) → ((k : ℕ) → k < n → p k ≡ false) → count_below n p ≡ 0
unfolding count_below
count-zero p zero none = refl
count-zero p (suc n) none = omega (arith, count-zero p n (λ k l. none k (omega arith)), ap one (none n (omega arith)))
