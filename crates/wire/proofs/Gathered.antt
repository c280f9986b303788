-- A byte compared with one letter after the other, the answers gathered from left to right. Assumes nothing.
use Rattle.octets.proofs.Proving.{Bool, List, [], ◌+◌, ◌<◌, ◌||◌, ◌∙◌, ◌∷◌, ◌≡◌, add-one, ap, eqb, false, get_or, length, or_assoc, or-false, refl, sym, take, take-suc, take_all, ◌++◌, ◌≤◌, ℕ}
use Prim.Native.Char.{code}
use Prim.Native.String as Text
use Rattle.octets.specs.Choice.{among, text}

-- the byte is one of these
unfoldable pub one_of : List ℕ → ℕ → Bool
one_of [] b = false
one_of (x ∷ xs) b = eqb b x || one_of xs b

one_more : (xs : List ℕ) (x b : ℕ) → one_of (xs ++ (x ∷ [])) b ≡ (one_of xs b || eqb b x)
unfolding one_of
one_more [] x b = or-false (eqb b x)
one_more (y ∷ ys) x b = ap (λ (t : Bool). eqb b y || t) (one_more ys x b) ∙ sym (or_assoc (eqb b y) (one_of ys b) (eqb b x))

pub gathered : (xs : List ℕ) (n b : ℕ) → n < length xs → one_of (take (n + 1) xs) b ≡ (one_of (take n xs) b || eqb b (get_or xs n 0))
gathered xs n b h = rw add-one (ap (λ (ys : List ℕ). one_of ys b) (take-suc xs n 0 h) ∙ one_more (take n xs) (get_or xs n 0) b)

letters-told : (set : Text.String) (b : ℕ) → one_of (text set) b ≡ among set b
unfolding one_of among text
letters-told Text.[] b = refl
letters-told (Text.◌∷◌ c cs) b = ap (λ (t : Bool). eqb b (code c) || t) (letters-told cs b)

-- at the end it was compared with all of them
pub all-gathered : (xs : List ℕ) (n b : ℕ) → length xs ≤ n → (set : Text.String) → text set ≡ xs → one_of (take n xs) b ≡ among set b
all-gathered xs n b h set e = rw (take_all n xs h) (ap (λ (ys : List ℕ). one_of ys b) (sym e) ∙ letters-told set b)
