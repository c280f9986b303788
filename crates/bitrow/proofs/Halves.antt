-- A range in two, the numbers below m and the n behind them: a test that holds of all holds of both, and the counts of both add up. Assumes nothing.
use Rattle.octets.proofs.Proving.{Bool, ◌&&◌, ◌+◌, ◌∙◌, ◌≡◌, ◌≤◌, add-suc, add-zero, and_assoc, and-true, ap, arith, false, lit≤, suc, sym, true, zero, ℕ}
use Rattle.octets.specs.Choice.{pick, all_below, count_below}

pub all_split : (p : ℕ → Bool) (m n : ℕ) → all_below (m + n) p ≡ (all_below m p && all_below n (λ k. p (m + k)))
unfolding all_below
all_split p m zero = ap (λ (k : ℕ). all_below k p) (add-zero m) ∙ sym (and-true (all_below m p))
all_split p m (suc n) =
    ap (λ (k : ℕ). all_below k p) (add-suc m n) ∙ ap (λ (b : Bool). b && p (m + n)) (all_split p m n)
    ∙ and_assoc (all_below m p) (all_below n (λ k. p (m + k))) (p (m + n))

pub count-split : (p : ℕ → Bool) (m n : ℕ) → count_below (m + n) p ≡ count_below m p + count_below n (λ k. p (m + k))
unfolding count_below
count-split p m zero = ap (λ (k : ℕ). count_below k p) (add-zero m) ∙ sym (add-zero (count_below m p))
count-split p m (suc n) =
    let e : count_below (m + n) p ≡ count_below m p + count_below n (λ k. p (m + k)) = count-split p m n in
    ap (λ (k : ℕ). count_below k p) (add-suc m n) ∙ omega (arith, e)

-- the first number first
pub count-first : (p : ℕ → Bool) (n : ℕ) → count_below (suc n) p ≡ pick (p 0) 1 0 + count_below n (λ k. p (suc k))
unfolding count_below
count-first p zero = omega arith
count-first p (suc n) = omega (arith, count-first p n)

-- no more pass than there are
pub count_most : (p : ℕ → Bool) (n : ℕ) → count_below n p ≤ n
unfolding count_below
count_most p zero = omega arith
count_most p (suc n) = omega (arith, count_most p n, at_most (p n))
  where
    at_most : (b : Bool) → pick b 1 0 ≤ 1
    at_most true = lit≤ tt
    at_most false = lit≤ tt
