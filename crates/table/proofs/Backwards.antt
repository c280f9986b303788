-- Tokens compared from the last byte backwards: it is the same test as from the first byte on, and several bytes compared at once, as numbers, are
-- the same test as one by one. Assumes nothing.
use Rattle.octets.proofs.Proving.{Bool, List, [], ◌∷◌, ◌&&◌, ◌*◌, ◌+◌, ◌<◌, ◌∙◌, ◌≡◌, ◌≤◌, add-one, add-suc, add-zero, and_assoc, and_comm, and-false, and-true, ap, ap₂, arith, drop, eq-eqb, eqb, eqb-false, eqb-true, false, get_or, le_refl, length, ne_eqb, not, refl, suc, sym, take-take, true, zero, ℕ}
use Rattle.std.specs.Int.{w16, w32, w64, from_be_bytes}
use Rattle.octets.specs.Choice.{all_below, first_of◌, ◌⇒◌⨾◌}
use Rattle.octets.specs.Bytes.{part, same, number_of, number_from, whole_at}
use Rattle.octets.proofs.Laws.{number-next}
use Rattle.octets.proofs.Below.{same-below}
use Rattle.wire.specs.Legal.{Bytes}
use Rattle.wire.specs.Limits.{token_size}
use Rattle.table.specs.Backwards.{same_backwards}

-- the numbers below k + n: the last n, then the k before them
all-behind : (p : ℕ → Bool) (k n : ℕ) → all_below (k + n) p ≡ (all_below n (λ j. p (k + j)) && all_below k p)
unfolding all_below
all-behind p k zero = rw add-zero
all-behind p k (suc n) =
    let later : Bool = all_below n (λ j. p (k + j)) in
    rw (add-suc, all-behind p k n, and_assoc later (all_below k p) (p (k + n)), and_comm (all_below k p) (p (k + n)))
    (sym (and_assoc later (p (k + n)) (all_below k p)))

-- two numbers are equal where their last bytes are and what stands before these
last_byte : (p q x y : ℕ) → x < 256 → y < 256 → eqb (p * 256 + x) (q * 256 + y) ≡ (eqb p q && eqb x y)
last_byte p q x y a b = by (eqb p q) (eqb x y) refl refl
  where
    by : (s t : Bool) → eqb p q ≡ s → eqb x y ≡ t → eqb (p * 256 + x) (q * 256 + y) ≡ (s && t)
    by true true e f = eq-eqb (p * 256 + x) (q * 256 + y) (omega (arith, eqb-true p q e, eqb-true x y f))
    by true false e f = ne_eqb (p * 256 + x) (q * 256 + y) (λ g. eqb-false x y f (omega (arith, eqb-true p q e)))
    by false t e f = ne_eqb (p * 256 + x) (q * 256 + y) (λ g. eqb-false p q e (omega arith))

-- all fourteen bytes in three numbers
abbrev pub same_words : List ℕ → List ℕ → Bool
same_words xs ys = eqb (whole_at xs 6 8) (whole_at ys 6 8) && (eqb (whole_at xs 2 4) (whole_at ys 2 4) && eqb (whole_at xs 0 2) (whole_at ys 0 2))

module _ (xs ys : List ℕ) where
  abbrev byte_same : ℕ → Bool
  byte_same k = eqb (get_or xs k 0) (get_or ys k 0)

  in-any-order : (n : ℕ) → same_backwards n xs ys ≡ all_below n byte_same
  unfolding same_backwards all_below
  in-any-order zero = refl
  in-any-order (suc n) = asked (byte_same n) (same_backwards n xs ys) ∙ ap (λ (b : Bool). b && byte_same n) (in-any-order n)
    where
      asked : (test rest : Bool) → (first_of not test ⇒ false ⨾ rest) ≡ (rest && test)
      asked true rest = sym (and-true rest)
      asked false rest = sym (and-false rest)

  pub either_end : (n : ℕ) → length xs ≡ n → length ys ≡ n → same_backwards n xs ys ≡ same xs ys
  either_end n a b =
      in-any-order n ∙ sym (same-below xs ys (a ∙ sym b) ∙ ap (λ (m : ℕ). all_below m byte_same) a)

  module _ (a : Bytes xs) (b : Bytes ys) where
    as_number : (k n : ℕ) → k + n ≤ length xs → k + n ≤ length ys → eqb (whole_at xs k n) (whole_at ys k n) ≡ all_below n (λ j. byte_same (k + j))
    unfolding all_below number_of number_from
    as_number k zero f g = refl
    as_number k (suc n) f g =
        ap₂ eqb (next xs (omega arith)) (next ys (omega arith))
        ∙ last_byte _ _ _ _ (a (k + n)) (b (k + n))
        ∙ ap (λ (t : Bool). t && byte_same (k + n)) (as_number k n (omega arith) (omega arith))
      where
        next : (s : List ℕ) → k + n < length s → whole_at s k (suc n) ≡ whole_at s k n * 256 + get_or s (k + n) 0
        next s h = ap (whole_at s k) (sym (add-one n)) ∙ number-next s k n h

    -- the last n bytes at once, and where these are the same the k before them
    word : (k n : ℕ) → k + n ≤ length xs → k + n ≤ length ys → same_backwards (k + n) xs ys ≡ (eqb (whole_at xs k n) (whole_at ys k n) && same_backwards k xs ys)
    word k n f g = in-any-order (k + n) ∙ all-behind byte_same k n ∙ sym (ap₂ ◌&&◌ (as_number k n f g) (in-any-order k))

    pub in_words : length xs ≡ token_size → length ys ≡ token_size → same_backwards token_size xs ys ≡ same_words xs ys
    unfolding same_backwards
    in_words e f =
        word 6 8 (omega arith) (omega arith)
        ∙ ap (λ (t : Bool). eqb (whole_at xs 6 8) (whole_at ys 6 8) && t)
        (word 2 4 (omega arith) (omega arith)
        ∙ ap (λ (t : Bool). eqb (whole_at xs 2 4) (whole_at ys 2 4) && t) (word 0 2 (omega arith) (omega arith) ∙ and-true _))

-- bytes that were copied out are the number that they were in their place
pub copied : (s : List ℕ) (at n : ℕ) {t : List ℕ} → t ≡ part s at n → whole_at t 0 n ≡ whole_at s at n
copied s at n e = ap (λ (l : List ℕ). whole_at l 0 n) e ∙ ap number_of (take-take n n (drop at s) (le_refl n))

-- and so are they, read the highest first
module _ (s : List ℕ) (at : ℕ) {t : List ℕ} {n : ℕ} where
  pub eight : n ≡ from_be_bytes w64 t → t ≡ part s at 8 → length t ≡ 8 → n ≡ whole_at s at 8
  unfolding number_of number_from
  eight read is long = read ∙ spelt t long ∙ ap number_of is
    where
      spelt : (xs : List ℕ) → length xs ≡ 8 → from_be_bytes w64 xs ≡ number_of xs
      spelt (a ∷ b ∷ c ∷ d ∷ e ∷ f ∷ g ∷ h ∷ []) all = omega arith
      spelt _ all = absurd (omega arith)

  pub four : n ≡ from_be_bytes w32 t → t ≡ part s at 4 → length t ≡ 4 → n ≡ whole_at s at 4
  unfolding number_of number_from
  four read is long = read ∙ spelt t long ∙ ap number_of is
    where
      spelt : (xs : List ℕ) → length xs ≡ 4 → from_be_bytes w32 xs ≡ number_of xs
      spelt (a ∷ b ∷ c ∷ d ∷ []) all = omega arith
      spelt _ all = absurd (omega arith)

  pub two : n ≡ from_be_bytes w16 t → t ≡ part s at 2 → length t ≡ 2 → n ≡ whole_at s at 2
  unfolding number_of number_from
  two read is long = read ∙ spelt t long ∙ ap number_of is
    where
      spelt : (xs : List ℕ) → length xs ≡ 2 → from_be_bytes w16 xs ≡ number_of xs
      spelt (a ∷ b ∷ []) all = omega arith
      spelt _ all = absurd (omega arith)
