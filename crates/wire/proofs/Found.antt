-- What looking at fields one by one finds: the first bad place, or none, and never 0, where the type stands. Assumes nothing.
use Rattle.std.specs.Option.{option_or}
use Rattle.octets.proofs.Proving.{List, [], ◌∙◌, ◌∷◌, ◌≡◌, ap₂, arith, refl, true, ℕ}
use Rattle.std.specs.Prelude.{Option, None, Some}
use Rattle.octets.specs.Bytes.{part}
use Rattle.wire.specs.Layout.{Field, bad_place, first_bad_place, unbroken}
use Rattle.wire.proofs.BadPlaces.{first-bad, first-from}

-- what one field has
abbrev pub Finds : Field → List ℕ → Option ℕ → Type 0
Finds f s r = r ≡ bad_place f.rule f.at (part s f.at f.width)

pub alone : (a : Option ℕ) → a ≡ option_or a None
alone None = refl
alone (Some at) = refl

pub in_turn : (a b c : Option ℕ) → option_or (option_or a b) c ≡ option_or a (option_or b c)
in_turn None b c = refl
in_turn (Some at) b c = refl

-- a field, and what was found behind it
pub behind : (f : Field) (fs : List Field) (s : List ℕ) {r p q : Option ℕ} → r ≡ option_or p q → Finds f s p → q ≡ first_bad_place fs s
    → r ≡ first_bad_place (f ∷ fs) s
unfolding first_bad_place
behind f fs s e x y = e ∙ ap₂ option_or x y

-- one field, two, or three in a row

pub one : (f : Field) (s : List ℕ) {r : Option ℕ} → Finds f s r → r ≡ first_bad_place (f ∷ []) s
unfolding first_bad_place
one f s e = e ∙ alone (bad_place f.rule f.at (part s f.at f.width))

pub two : (f g : Field) (s : List ℕ) {r p q : Option ℕ} → r ≡ option_or p q → Finds f s p → Finds g s q → r ≡ first_bad_place (f ∷ g ∷ []) s
unfolding first_bad_place
two f g s e x y = e ∙ ap₂ option_or x (one g s y)

pub three : (f g i : Field) (s : List ℕ) {r o p q t : Option ℕ} → r ≡ option_or o t → o ≡ option_or p q → Finds f s p → Finds g s q
    → Finds i s t → r ≡ first_bad_place (f ∷ g ∷ i ∷ []) s
unfolding first_bad_place
three f g i s {r} {o} {p} {q} {t} e d x y z = rw (e, d) (in_turn p q t ∙ ap₂ option_or x (two g i s refl y z))

-- fields in a row behind the first byte have no bad byte at 0
pub not-at-0 : (fs : List Field) (size : ℕ) → unbroken 1 size fs ≡ true → (s : List ℕ) → first_bad_place fs s ≡ Some 0 → ⊥
not-at-0 fs size u s e = omega (arith, first-from fs s 1 size u (first-bad fs 1 size s 0 u e))
