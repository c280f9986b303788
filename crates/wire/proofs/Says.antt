-- A test and the sentence that it tests: each test of a byte that the paper names holds exactly when its sentence does. Assumes nothing.
use Rattle.octets.proofs.Proving.{Bool, List, ◌&&◌, ◌<◌, ◌||◌, ◌∙◌, ◌≡◌, ◌≤◌, ◌⊎◌, ap, ap₂, arith, eq-eqb, eqb, eqb-true, false, get_or, inl, inr, le-leb, leb, leb-true, length, lt-ltb, ltb, ltb-true, or_assoc, refl, subst, sym, true, ℕ, ⊎_elim}
use Prim.Native.Char.{code}
use Prim.Native.String as Text
use Rattle.octets.specs.Bytes.{all_are}
use Rattle.octets.specs.Choice.{among}
use Rattle.octets.proofs.Below.{both, all-at, all-each, are-below}
use Rattle.wire.specs.Letters.{space}
use Rattle.wire.specs.Text.{token_byte, capital, small, digit}
use Rattle.wire.specs.Legal.{LetterDigitOrSpace, OneOf}

pub record Says (t : Bool) (P : Type 0) : Type 0 where
  pub so : t ≡ true → P
  pub test : P → t ≡ true

abbrev pub seen : (t : Bool) → (t ≡ true) ⊎ (t ≡ false)
seen true = inl refl
seen false = inr refl

differ : {A : Type 0} → true ≡ false → A
differ e = let z : ◌≡◌ {A = ℕ} 0 1 = cc in absurd (omega arith)

module _ {s : Bool} {P : Type 0} (p : Says s P) where
  pub not_so : s ≡ false → P → ⊥
  not_so n h = differ (sym (p.test h) ∙ n)

  pub fails : (P → ⊥) → s ≡ false
  fails h = ⊎_elim (λ y. absurd (h (p.so y))) (λ n. n) (seen s)

-- ---- numbers

pub says-le : (a b : ℕ) → Says (leb a b) (a ≤ b)
says-le a b = record { so = leb-true a b; test = le-leb a b }

pub says-lt : (a b : ℕ) → Says (ltb a b) (a < b)
says-lt a b = record { so = ltb-true a b; test = lt-ltb a b }

pub says_eq : (a b : ℕ) → Says (eqb a b) (a ≡ b)
says_eq a b = record { so = eqb-true a b; test = eq-eqb a b }

-- ---- sentences of two parts

module _ {s t : Bool} {P Q : Type 0} (p : Says s P) (q : Says t Q) where
  pub says-and : Says (s && t) (P × Q)
  says-and = record {
    so = λ e. let b = both s t e in (p.so b.0, q.so b.1);
    test = λ h. ap₂ ◌&&◌ (p.test h.0) (q.test h.1);
  }

  pub says-or : Says (s || t) (P ⊎ Q)
  says-or = record {
    so = λ e. ⊎_elim (λ y. inl (p.so y)) (λ n. inr (q.so (ap (λ (x : Bool). x || t) (sym n) ∙ e))) (seen s);
    test = λ h. ⊎_elim
        (λ x. ap (λ (y : Bool). y || t) (p.test x))
        (λ x. ⊎_elim (λ y. ap (λ (z : Bool). z || t) y) (λ n. ap (λ (z : Bool). z || t) n ∙ q.test x) (seen s))
        h;
  }

-- ---- bytes

pub says-within : (low b high : ℕ) → Says (leb low b && leb b high) ((low ≤ b) × (b ≤ high))
says-within low b high = says-and (says-le low b) (says-le b high)

pub says-token : (b : ℕ) → Says (token_byte b) (LetterDigitOrSpace b)
unfolding token_byte capital small digit
says-token b =
    subst (λ (t : Bool). Says t (LetterDigitOrSpace b)) (sym (or_assoc (capital b || small b) (digit b) (eqb b space) ∙ or_assoc (capital b) (small b) (digit b || eqb b space)))
    (says-or (says-within (code "A") b (code "Z")) (says-or (says-within (code "a") b (code "z")) (says-or (says-within (code "0") b (code "9")) (says_eq b space))))

pub says-among : (letters : Text.String) (b : ℕ) → Says (among letters b) (OneOf letters b)
unfolding among
says-among Text.[] b = record { so = λ e. differ (sym e); test = λ h. absurd h }
says-among (Text.◌∷◌ c cs) b = says-or (says_eq b (code c)) (says-among cs b)

pub says-are : (x : ℕ) (xs : List ℕ) → Says (all_are x xs) ((i : ℕ) → i < length xs → get_or xs i 0 ≡ x)
says-are x xs = record {
  so = λ e i h. eqb-true _ _ (all-at (λ k. eqb (get_or xs k 0) x) (length xs) i (sym (are-below x xs) ∙ e) h);
  test = λ h. are-below x xs ∙ all-each (λ k. eqb (get_or xs k 0) x) (length xs) (λ k l. eq-eqb _ _ (h k l));
}
