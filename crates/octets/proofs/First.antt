-- The laws of the first number below a bound of which a test holds: what it is, that there is no other, and what a loop knows that looks at one
-- number after the other. Assumes nothing.
use Rattle.octets.proofs.Proving.{Bool, ◌+◌, ◌-◌, ◌<◌, ◌∙◌, ◌≡◌, ◌≤◌, ap₂, arith, dec_lt, false, false≢true, le-ltb, lt-ltb, ltb, refl, sub-zero, subst, suc, sym, true, zero, ℕ, ℕ_discrete}
use Rattle.octets.specs.Choice.{pick, some_below, first_from, first_below}
use Rattle.octets.proofs.Below.{some-none, some-true}

-- i is below the bound and passes, and none before it does
pub record First (n : ℕ) (p : ℕ → Bool) (i : ℕ) : Type 0 where
  pub below : i < n
  pub holds : p i ≡ true
  pub none_before : (j : ℕ) → j < i → p j ≡ false

module _ (p : ℕ → Bool) where
  step : (left i : ℕ) (b : Bool) → p i ≡ b → first_from p (suc left) i ≡ pick b i (first_from p left (i + 1))
  unfolding first_from
  step left i b e = rw e

  -- of the `left` numbers from i on: how far the first lies, that it passes, and that none before it does
  record From (left i r : ℕ) : Type 0 where
    within : r ≤ i + left
    holds : r < i + left → p r ≡ true
    none_before : (j : ℕ) → i ≤ j → j < r → p j ≡ false

  from : (left i : ℕ) → From left i (first_from p left i)
  unfolding first_from
  from zero i = record { within = omega arith; holds = λ h. absurd (omega arith); none_before = λ j a b. absurd (omega arith) }
  from (suc left) i = go (p i) refl (from left (i + 1))
    where
      go : (b : Bool) → p i ≡ b → From left (i + 1) (first_from p left (i + 1)) → From (suc left) i (first_from p (suc left) i)
      go true e later =
          subst (From (suc left) i) (sym (step left i true e))
          (record { within = omega arith; holds = λ h. e; none_before = λ j a b. absurd (omega arith) })
      go false e later =
          subst (From (suc left) i) (sym (step left i false e)) record {
            within = omega (arith, later.within);
            holds = λ h. later.holds (omega arith);
            none_before = λ j a b. elim (ℕ_discrete j i) [
              | yes q ↦ subst (λ (k : ℕ). p k ≡ false) (sym q) e
              | no q ↦ later.none_before j (omega arith) b
            ];
          }

  module _ (n : ℕ) where
    whole : From n 0 (first_below n p)
    unfolding first_below
    whole = from n 0

    pub first-within : first_below n p ≤ n
    first-within = omega (arith, whole.within)

    pub first-is : first_below n p < n → First n p (first_below n p)
    first-is h = record { below = h; holds = whole.holds (omega arith); none_before = λ j l. whole.none_before j (omega arith) l }

    pub first-none : n ≤ first_below n p → (j : ℕ) → j < n → p j ≡ false
    first-none h j l = whole.none_before j (omega arith) (omega arith)

    -- and there is no other answer
    pub first-only : (i : ℕ) → First n p i → first_below n p ≡ i
    first-only i f =
        elim (dec_lt (first_below n p) i) [
          | yes l ↦ absurd (false≢true (sym (f.none_before (first_below n p) l) ∙ whole.holds (omega (arith, f.below))))
          | no g ↦ elim (dec_lt i (first_below n p)) [
            | yes l ↦ absurd (false≢true (sym (whole.none_before i (omega arith) l) ∙ f.holds))
            | no g' ↦ omega arith
          ]
        ]

    pub none_only : ((j : ℕ) → j < n → p j ≡ false) → first_below n p ≡ n
    none_only none =
        elim (dec_lt (first_below n p) n) [
          | yes l ↦ absurd (false≢true (sym (none (first_below n p) l) ∙ whole.holds (omega arith)))
          | no g ↦ omega (arith, first-within)
        ]

-- there is one just where some number passes
pub some_first : (p : ℕ → Bool) (n : ℕ) → some_below n p ≡ ltb (first_below n p) n
some_first p n =
    elim (dec_lt (first_below n p) n) [
      | yes l ↦ some-true p n (first_below n p) l (first-is p n l).holds ∙ sym (lt-ltb (first_below n p) n l)
      | no g ↦ some-none p n (first-none p n (omega arith)) ∙ sym (le-ltb (first_below n p) n (omega arith))
    ]

-- tests that agree
pub first-same : (p q : ℕ → Bool) (n : ℕ) → ((j : ℕ) → p j ≡ q j) → first_below n p ≡ first_below n q
unfolding first_below first_from
first-same p q n agree = from-same n 0
  where
    from-same : (left i : ℕ) → first_from p left i ≡ first_from q left i
    from-same zero i = refl
    from-same (suc left) i = ap₂ (λ (b : Bool) (k : ℕ). pick b i k) (agree i) (from-same left (i + 1))

-- ---- a loop that looks at one number after the other

-- the numbers before i don't pass: the first is still ahead
abbrev pub Ahead : ℕ → (ℕ → Bool) → ℕ → Type 0
Ahead n p i = first_below n p ≡ first_from p (n - i) i

module _ (n : ℕ) (p : ℕ → Bool) where
  pub ahead-start : Ahead n p 0
  unfolding first_below
  ahead-start = rw sub-zero

  module _ (i : ℕ) (here : Ahead n p i) where
    turn : (b : Bool) → i < n → p i ≡ b → first_below n p ≡ pick b i (first_from p (n - (i + 1)) (i + 1))
    turn b l e = let q : n - i ≡ suc (n - (i + 1)) = omega arith in here ∙ rw q (step p (n - (i + 1)) i b e)

    pub ahead-found : i < n → p i ≡ true → i ≡ first_below n p
    ahead-found l e = sym (turn true l e)

    pub ahead-next : i < n → p i ≡ false → Ahead n p (i + 1)
    ahead-next l e = turn false l e

    pub ahead-end : i ≡ n → n ≡ first_below n p
    unfolding first_from
    ahead-end e =
        let none : n - i ≡ 0 = omega arith in
        sym (here ∙ rw none e)
