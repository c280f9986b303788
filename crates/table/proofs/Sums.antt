-- The laws of what the numbers below a bound add up to: numbers that agree have one sum, one that changes changes it by as much, and none above a
-- most keeps it below that many times the most. Assumes nothing.
use Rattle.octets.proofs.Proving.{◌*◌, ◌+◌, ◌<◌, ◌≡◌, ◌≢◌, ◌≤◌, add-one, ap₂, arith, refl, suc, sym, zero, ap, ℕ, ℕ_discrete}
use Rattle.orders.specs.Limits.{most_shares}
use Rattle.table.specs.Table.{sum_below}

module _ (f g : ℕ → ℕ) where
  pub sum_same : (n : ℕ) → ((k : ℕ) → k < n → f k ≡ g k) → sum_below n f ≡ sum_below n g
  unfolding sum_below
  sum_same zero agree = refl
  sum_same (suc n) agree = ap₂ ◌+◌ (sum_same n (λ k l. agree k (omega arith))) (agree n (omega arith))

  -- numbers that agree but at i
  pub sum-changed : (n i : ℕ) → i < n → ((k : ℕ) → k < n → k ≢ i → f k ≡ g k) → sum_below n g + f i ≡ sum_below n f + g i
  unfolding sum_below
  sum-changed zero i h agree = absurd (omega arith)
  sum-changed (suc n) i h agree =
      elim (ℕ_discrete i n) [
        | yes e ↦
            let below : sum_below n f ≡ sum_below n g = sum_same n (λ k l. agree k (omega arith) (λ q. omega arith)) in
            omega (arith, below, ap f e, ap g e)
        | no d ↦
            let below : sum_below n g + f i ≡ sum_below n f + g i = sum-changed n i (omega arith) (λ k l. agree k (omega arith)) in
            omega (arith, below, agree n (omega arith) (λ q. d (sym q)))
      ]

pub sum-next : (f : ℕ → ℕ) (n : ℕ) → sum_below (n + 1) f ≡ sum_below n f + f n
unfolding sum_below
sum-next f n = rw add-one

pub sum-most : (f : ℕ → ℕ) (n : ℕ) → ((k : ℕ) → k < n → f k ≤ most_shares) → sum_below n f ≤ most_shares * n
unfolding sum_below
sum-most f zero small = omega arith
sum-most f (suc n) small = omega (arith, sum-most f n (λ k l. small k (omega arith)), small n (omega arith))
