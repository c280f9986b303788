-- The first bad place of a list of fields: there is none exactly when every field obeys its rule, and where there is one it is the smallest
-- offset of a bad byte. Assumes nothing.
use Rattle.std.specs.Option.{option_or}
use Rattle.octets.proofs.Proving.{Bool, List, List·Memᴰ·cases-cons, List·Memᴰ·head, List·Memᴰ·not-nil, List·Memᴰ·tail, [], ◌+◌, ◌∙◌, ◌∷◌, ◌≡◌, ◌≤◌, ◌⊎◌, ap, arith, drop, false, inl, inr, length, length-take, refl, subst, sym, true, ℕ, ⊎_elim}
use Rattle.std.specs.Prelude.{Option, None, Some}
use Rattle.octets.specs.Bytes.{part, number_of}
use Rattle.wire.specs.Letters.{space}
use Rattle.wire.specs.Text.{token_byte}
use Rattle.wire.specs.Layout.{Rule, free, below, between, one_of, legal_token, blank, Field, unless, bad_place, first_bad_place, unbroken}
use Rattle.wire.specs.Legal.{LetterDigitOrSpace, Obeys, ◌∈◌, AllObey, BadByte, BadIn, FirstBad}
use Rattle.wire.proofs.Layouts.{none_before, first-at, rest-unbroken}
use Rattle.wire.proofs.Says.{Says, not_so, says-lt, says-within, says-token, says-among, says-are}
use Rattle.wire.proofs.FirstNot.{no_place, some_is, token-bytes, all_pass, none_found, found-fails, found_first}

-- ---- a field that is judged as a whole

module _ {ok : Bool} {P : Type 0} (says : Says ok P) (at : ℕ) where
  whole-obeys : unless ok at ≡ None → P
  whole-obeys h = go ok refl h
    where
      go : (b : Bool) → ok ≡ b → unless b at ≡ None → P
      go true e h = says.so e
      go false e h = no_place (sym h)

  whole-clean : P → unless ok at ≡ None
  whole-clean h = ap (λ (b : Bool). unless b at) (says.test h)

  whole-bad : {p : ℕ} → unless ok at ≡ Some p → (p ≡ at) × (P → ⊥)
  whole-bad {p} h = go ok refl h
    where
      go : (b : Bool) → ok ≡ b → unless b at ≡ Some p → (p ≡ at) × (P → ⊥)
      go true e h = no_place h
      go false e h = (sym (some_is h), not_so says e)

-- ---- one field

obeyed : (rule : Rule) (at : ℕ) (xs : List ℕ) → bad_place rule at xs ≡ None → Obeys rule xs
unfolding bad_place Obeys
obeyed free at xs h = tt
obeyed (below n) at xs h = whole-obeys (says-lt (number_of xs) n) at h
obeyed (between low high) at xs h = whole-obeys (says-within low (number_of xs) high) at h
obeyed (one_of letters) at xs h = whole-obeys (says-among letters (number_of xs)) at h
obeyed legal_token at xs h = all_pass token_byte LetterDigitOrSpace says-token at xs (sym (token-bytes at xs) ∙ h)
obeyed blank at xs h = whole-obeys (says-are space xs) at h

clean : (rule : Rule) (at : ℕ) (xs : List ℕ) → Obeys rule xs → bad_place rule at xs ≡ None
unfolding bad_place Obeys
clean free at xs h = refl
clean (below n) at xs h = whole-clean (says-lt (number_of xs) n) at h
clean (between low high) at xs h = whole-clean (says-within low (number_of xs) high) at h
clean (one_of letters) at xs h = whole-clean (says-among letters (number_of xs)) at h
clean legal_token at xs h = token-bytes at xs ∙ none_found token_byte LetterDigitOrSpace says-token at xs h
clean blank at xs h = whole-clean (says-are space xs) at h

bad-there : (rule : Rule) (at : ℕ) (xs : List ℕ) (p : ℕ) → bad_place rule at xs ≡ Some p → BadByte rule at xs p
unfolding bad_place BadByte Obeys
bad-there free at xs p h = no_place h
bad-there (below n) at xs p h = whole-bad (says-lt (number_of xs) n) at h
bad-there (between low high) at xs p h = whole-bad (says-within low (number_of xs) high) at h
bad-there (one_of letters) at xs p h = whole-bad (says-among letters (number_of xs)) at h
bad-there legal_token at xs p h = found-fails token_byte LetterDigitOrSpace says-token at xs p (sym (token-bytes at xs) ∙ h)
bad-there blank at xs p h = whole-bad (says-are space xs) at h

-- a bad byte lies in its field
bad-inside : (rule : Rule) (at : ℕ) (xs : List ℕ) (q : ℕ) → BadByte rule at xs q → (at ≤ q) × (q ≤ at + length xs)
unfolding BadByte
bad-inside free at xs q b = absurd b
bad-inside (below n) at xs q b = (omega (arith, b.0), omega (arith, b.0))
bad-inside (between low high) at xs q b = (omega (arith, b.0), omega (arith, b.0))
bad-inside (one_of letters) at xs q b = (omega (arith, b.0), omega (arith, b.0))
bad-inside legal_token at xs q b = (omega (arith, b.1.0), omega (arith, b.1.0, b.1.1.0))
bad-inside blank at xs q b = (omega (arith, b.0), omega (arith, b.0))

-- and so does the place that is found
pub bad-from : (rule : Rule) (at : ℕ) (xs : List ℕ) {p : ℕ} → bad_place rule at xs ≡ Some p → at ≤ p
bad-from rule at xs {p} h = (bad-inside rule at xs p (bad-there rule at xs p h)).0

bad-first : (rule : Rule) (at : ℕ) (xs : List ℕ) (p : ℕ) → bad_place rule at xs ≡ Some p → (q : ℕ) → BadByte rule at xs q → p ≤ q
unfolding bad_place BadByte
bad-first free at xs p h q b = absurd b
bad-first (below n) at xs p h q b = omega (arith, (whole-bad (says-lt (number_of xs) n) at h).0, b.0)
bad-first (between low high) at xs p h q b = omega (arith, (whole-bad (says-within low (number_of xs) high) at h).0, b.0)
bad-first (one_of letters) at xs p h q b = omega (arith, (whole-bad (says-among letters (number_of xs)) at h).0, b.0)
bad-first legal_token at xs p h q b =
    omega (arith, b.1.0, found_first token_byte LetterDigitOrSpace says-token at xs p (sym (token-bytes at xs) ∙ h) b.0 b.1.1.0 b.1.1.1)
bad-first blank at xs p h q b = omega (arith, (whole-bad (says-are space xs) at h).0, b.0)

none-bad : (rule : Rule) (at : ℕ) (xs : List ℕ) → Obeys rule xs → (q : ℕ) → BadByte rule at xs q → ⊥
unfolding BadByte Obeys
none-bad free at xs h q b = b
none-bad (below n) at xs h q b = b.1 h
none-bad (between low high) at xs h q b = b.1 h
none-bad (one_of letters) at xs h q b = b.1 h
none-bad legal_token at xs h q b = b.1.1.1 (h b.0 b.1.1.0)
none-bad blank at xs h q b = b.1 h

-- ---- all fields

pub all-obey : (fs : List Field) (s : List ℕ) → first_bad_place fs s ≡ None → AllObey fs s
unfolding first_bad_place
all-obey [] s h f m = absurd (List·Memᴰ·not-nil m)
all-obey (g ∷ fs) s h f m =
    let b = none_before (bad_place g.rule g.at (part s g.at g.width)) (first_bad_place fs s) h in
    ⊎_elim
    (λ e. subst (λ (x : Field). Obeys x.rule (part s x.at x.width)) (sym e) (obeyed g.rule g.at (part s g.at g.width) b.0))
    (λ t. all-obey fs s b.1 f t)
    (List·Memᴰ·cases-cons m)

pub no-bad-place : (fs : List Field) (s : List ℕ) → AllObey fs s → first_bad_place fs s ≡ None
unfolding first_bad_place
no-bad-place [] s h = refl
no-bad-place (g ∷ fs) s h =
    ap (λ (o : Option ℕ). option_or o (first_bad_place fs s)) (clean g.rule g.at (part s g.at g.width) (h g (List·Memᴰ·head refl)))
    ∙ no-bad-place fs s (λ f m. h f (List·Memᴰ·tail m))

-- the fields behind stand further on
behind : (fs : List Field) (at size : ℕ) → unbroken at size fs ≡ true → (f : Field) → f ∈ fs → at ≤ f.at
behind [] at size h f m = absurd (List·Memᴰ·not-nil m)
behind (g ∷ fs) at size h f m =
    ⊎_elim
    (λ e. omega (arith, ap (λ (x : Field). x.at) e, first-at g fs at size h))
    (λ t. omega (arith, behind fs (at + g.width) size (rest-unbroken g fs at size h) f t))
    (List·Memᴰ·cases-cons m)

either : (x y : Option ℕ) {p : ℕ} → option_or x y ≡ Some p → (x ≡ Some p) ⊎ ((x ≡ None) × (y ≡ Some p))
either None y e = inr (refl, e)
either (Some at) y e = inl e

pub first-bad : (fs : List Field) (at size : ℕ) (s : List ℕ) (p : ℕ) → unbroken at size fs ≡ true → first_bad_place fs s ≡ Some p → FirstBad fs s p
unfolding first_bad_place
first-bad [] at size s p u h = no_place h
first-bad (g ∷ fs) at size s p u h =
    let xs : List ℕ = part s g.at g.width in
    let rest : unbroken (at + g.width) size fs ≡ true = rest-unbroken g fs at size u in
    ⊎_elim
    (λ e.
    let bad : BadIn g s p = bad-there g.rule g.at xs p e in
    record {
      field = g;
      among = List·Memᴰ·head refl;
      bad = bad;
      first = λ f m q b. ⊎_elim
          (λ same. bad-first g.rule g.at xs p e q (subst (λ (x : Field). BadIn x s q) same b))
          (λ t.
          omega (arith, (bad-inside g.rule g.at xs p bad).1, length-take g.width (drop g.at s), first-at g fs at size u, behind fs (at + g.width) size rest f t, (bad-inside f.rule f.at (part s f.at f.width) q b).0))
          (List·Memᴰ·cases-cons m);
    })
    (λ r.
    let t : FirstBad fs s p = first-bad fs (at + g.width) size s p rest r.1 in
    record {
      field = t.field;
      among = List·Memᴰ·tail t.among;
      bad = t.bad;
      first = λ f m q b. ⊎_elim
          (λ same. absurd (none-bad g.rule g.at xs (obeyed g.rule g.at xs r.0) q (subst (λ (x : Field). BadIn x s q) same b)))
          (λ m'. t.first f m' q b)
          (List·Memᴰ·cases-cons m);
    })
    (either (bad_place g.rule g.at xs) (first_bad_place fs s) h)

-- ---- there is one first bad place at most, none where all obey, and none before the fields

module _ (fs : List Field) (s : List ℕ) where
  pub one-first : {p q : ℕ} → FirstBad fs s p → FirstBad fs s q → p ≡ q
  one-first a b = omega (arith, a.first b.field b.among _ b.bad, b.first a.field a.among _ a.bad)

  pub none_first : AllObey fs s → {p : ℕ} → FirstBad fs s p → ⊥
  none_first h b = let f = b.field in none-bad f.rule f.at (part s f.at f.width) (h f b.among) _ b.bad

  pub first-from : (at size : ℕ) → unbroken at size fs ≡ true → {p : ℕ} → FirstBad fs s p → at ≤ p
  first-from at size u b =
      let f = b.field in
      omega (arith, behind fs at size u f b.among, (bad-inside f.rule f.at (part s f.at f.width) _ b.bad).0)
