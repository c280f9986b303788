-- Words stay within their limits, whatever is heard. Assumes nothing.
use lib.Pointwise.{pointwise}
use Rattle.octets.proofs.Proving.{Bool, List, [], ◌∷◌, ◌&&◌, ◌+◌, ◌<◌, ◌∙◌, ◌≡◌, ◌≤◌, ap, drop, eqb, false, get_or, leb, leb-true, length, lit≤, refl, subst, sym, true, ℕ}
use Rattle.std.proofs.lemmas.List.{drop_more}
use Rattle.std.specs.Bool.{then_some}
use Rattle.std.specs.Prelude.{Option, Some, None, IfSome}
use Rattle.octets.specs.Bytes.{same}
use Rattle.octets.proofs.Below.{same_true, same_self, both}
use Rattle.words.specs.Words.{Words, Word, Ring, Release, Records, usual, takes, with_digit, with_word, with_both, word_of, number_from, number_in, heard, Allowed}

-- a test that is true exactly of equal texts is the computed one
pub same-tells : (xs ys : List ℕ) (b : Bool) → (b ≡ true → xs ≡ ys) × (xs ≡ ys → b ≡ true) → b ≡ same xs ys
same-tells xs ys true (equal, told) = sym (subst (λ (l : List ℕ). same xs l ≡ true) (equal refl) (same_self xs))
same-tells xs ys false (equal, told) = by (same xs ys) refl
  where
    by : (d : Bool) → same xs ys ≡ d → false ≡ d
    by false e = refl
    by true e = told (same_true xs ys e)

pub usual-allowed : Allowed usual
usual-allowed = record { ring-low = lit≤ tt; ring-high = lit≤ tt; release-low = lit≤ tt; records-low = lit≤ tt; records-high = lit≤ tt }

-- two tests that hold together hold each
within : {n low high : ℕ} → leb low n && leb n high ≡ true → (low ≤ n) × (n ≤ high)
within {n} {low} {high} e = let h = both (leb low n) (leb n high) e in (leb-true low n h.0, leb-true n high h.1)

pub word-allowed : (w : Words) (word : Word) (n : ℕ) → Allowed w → takes word n ≡ true → Allowed (with_word w word n)
word-allowed w Ring n a e =
    let h = within e in
    record { ring-low = h.0; ring-high = h.1; release-low = a.release-low; records-low = a.records-low; records-high = a.records-high }
word-allowed w Release n a e =
    record { ring-low = a.ring-low; ring-high = a.ring-high; release-low = (within e).0; records-low = a.records-low; records-high = a.records-high }
word-allowed w Records n a e =
    let h = within e in
    record { ring-low = a.ring-low; ring-high = a.ring-high; release-low = a.release-low; records-low = h.0; records-high = h.1 }

pub both-allowed : (w : Words) (word : Option Word) (n : Option ℕ) → Allowed w → IfSome (with_both w word n) Allowed
both-allowed w (Some word) (Some n) a = by (takes word n) refl
  where
    by : (b : Bool) → takes word n ≡ b → IfSome (then_some b (with_word w word n)) Allowed
    by true e = word-allowed w word n a e
    by false e = tt
both-allowed w (Some word) None a = tt
both-allowed w None n a = tt

pub heard-allowed : (w : Words) (name value : List ℕ) → Allowed w → IfSome (heard w name value) Allowed
unfolding heard
heard-allowed w name value a = both-allowed w (word_of name) (number_in value) a

-- what is no number doesn't become one
pub none-further : (s : List ℕ) → number_from None s ≡ None
unfolding number_from
none-further [] = refl
none-further (digit ∷ rest) = none-further rest

-- one digit more is read
pub one-further : (s : List ℕ) (i n : ℕ) (o : Option ℕ) → i < length s → o ≡ with_digit n (get_or s i 0)
    → number_from (Some n) (drop i s) ≡ number_from o (drop (i + 1) s)
unfolding number_from
one-further s i n o h e = ap (number_from (Some n)) (drop_more s i 0 h) ∙ ap (λ (p : Option ℕ). number_from p (drop (i + 1) s)) (sym e)
