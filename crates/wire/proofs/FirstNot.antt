-- The search for the first byte that fails a test, once over every test: it finds none exactly when all bytes pass, and what it finds fails
-- and is the first. Assumes nothing.
use Rattle.octets.proofs.Proving.{Bool, List, [], ◌+◌, ◌<◌, ◌∷◌, ◌≡◌, ◌≤◌, ap, arith, get_or, length, refl, suc, sym, zero, ℕ, ⊎_elim}
use Rattle.std.specs.Prelude.{Option, None, Some}
use Rattle.octets.specs.Choice.{pick}
use Rattle.wire.specs.Text.{token_byte}
use Rattle.wire.specs.Layout.{bad_token_byte}
use Rattle.wire.proofs.Says.{Says, seen, not_so}

pub no_place : {A : Type 0} {p : ℕ} → None ≡ Some p → A
no_place e = let z : ◌≡◌ {A = ℕ} 0 1 = cc in absurd (omega arith)

pub some_is : {i j : ℕ} → Some i ≡ Some j → i ≡ j
some_is e = cc

unfoldable pub first_not : (ℕ → Bool) → ℕ → List ℕ → Option ℕ
first_not p at [] = None
first_not p at (x ∷ xs) = pick (p x) (first_not p (1 + at) xs) (Some at)

pub token-bytes : (at : ℕ) (xs : List ℕ) → bad_token_byte at xs ≡ first_not token_byte at xs
unfolding bad_token_byte first_not
token-bytes at [] = refl
token-bytes at (x ∷ xs) = ap (λ (o : Option ℕ). pick (token_byte x) o (Some at)) (token-bytes (1 + at) xs)

-- byte q, of the bytes xs that stand from `at` on, is none that P holds of
abbrev pub Fails : (ℕ → Type 0) → ℕ → List ℕ → ℕ → Type 0
Fails P at xs q = (i : ℕ) × ((q ≡ at + i) × ((i < length xs) × (P (get_or xs i 0) → ⊥)))

module _ (p : ℕ → Bool) (P : ℕ → Type 0) (says : (b : ℕ) → Says (p b) (P b)) where
  pub all_pass : (at : ℕ) (xs : List ℕ) → first_not p at xs ≡ None → (i : ℕ) → i < length xs → P (get_or xs i 0)
  unfolding first_not
  all_pass at [] h i l = absurd (omega arith)
  all_pass at (x ∷ xs) h zero l = ⊎_elim (λ y. (says x).so y) (λ n. no_place (sym (rw n at h))) (seen (p x))
  all_pass at (x ∷ xs) h (suc i) l = ⊎_elim (λ y. all_pass (1 + at) xs (rw y at h) i (omega arith)) (λ n. no_place (sym (rw n at h))) (seen (p x))

  pub none_found : (at : ℕ) (xs : List ℕ) → ((i : ℕ) → i < length xs → P (get_or xs i 0)) → first_not p at xs ≡ None
  unfolding first_not
  none_found at [] h = refl
  none_found at (x ∷ xs) h = rw ((says x).test (h 0 (omega arith))) (none_found (1 + at) xs (λ i l. h (suc i) (omega arith)))

  pub found-fails : (at : ℕ) (xs : List ℕ) (q : ℕ) → first_not p at xs ≡ Some q → Fails P at xs q
  unfolding first_not
  found-fails at [] q h = no_place h
  found-fails at (x ∷ xs) q h =
      ⊎_elim
      (λ y. let f = found-fails (1 + at) xs q (rw y at h) in (suc f.0, (omega (arith, f.1.0), (omega (arith, f.1.1.0), f.1.1.1))))
      (λ n. let e : at ≡ q = some_is (rw n at h) in (0, (omega arith, (omega arith, not_so (says x) n))))
      (seen (p x))

  pub found_first : (at : ℕ) (xs : List ℕ) (q : ℕ) → first_not p at xs ≡ Some q → (i : ℕ) → i < length xs → (P (get_or xs i 0) → ⊥) → q ≤ at + i
  unfolding first_not
  found_first at [] q h i l n = absurd (omega arith)
  found_first at (x ∷ xs) q h zero l n =
      ⊎_elim (λ y. absurd (n ((says x).so y))) (λ f. let e : at ≡ q = some_is (rw f at h) in omega arith) (seen (p x))
  found_first at (x ∷ xs) q h (suc i) l n =
      ⊎_elim
      (λ y. omega (arith, found_first (1 + at) xs q (rw y at h) i (omega arith) n))
      (λ f. let e : at ≡ q = some_is (rw f at h) in omega arith)
      (seen (p x))
