-- What legal means, said without computing: the sentences that the readers' and the writers' answers are held to (Messages and entries).
use Rattle.std.specs.Prelude.{ℕ, ◌+◌, ◌≤◌, ◌<◌, ◌≡◌, ◌⊎◌, length, get_or}
use Prim.Native.Char.{Char, code}
use Prim.Native.String as Text
use mathlib.Core.List.{List, Memᴰ}
use Rattle.octets.specs.Bytes.{part, number_of}
use Rattle.answers.specs.Answer.{answer_number, answer_place}
use Rattle.answers.specs.Answer.{Answer}
use Rattle.wire.specs.Letters.{space}
use Rattle.wire.specs.Layout.{Rule, free, below, between, one_of, legal_token, blank, Field, Layout}

-- every byte is one
abbrev pub Bytes : List ℕ → Type 0
Bytes s = (k : ℕ) → get_or s k 0 < 256

abbrev pub Between : Char → ℕ → Char → Type 0
Between low b high = (code low ≤ b) × (b ≤ code high)

-- A token holds letters, digits and spaces only
abbrev pub LetterDigitOrSpace : ℕ → Type 0
LetterDigitOrSpace b = Between "A" b "Z" ⊎ Between "a" b "z" ⊎ Between "0" b "9" ⊎ (b ≡ space)

-- Sides: B S T E. Sweep: Y N y. ..
abbrev pub OneOf : Text.String → ℕ → Type 0
OneOf Text.[] b = ⊥
OneOf (Text.◌∷◌ c cs) b = (b ≡ code c) ⊎ OneOf cs b

-- a field's bytes obey its rule
unfoldable pub Obeys : Rule → List ℕ → Type 0
Obeys free xs = Unit {0}
Obeys (below n) xs = number_of xs < n
Obeys (between low high) xs = (low ≤ number_of xs) × (number_of xs ≤ high)
Obeys (one_of letters) xs = OneOf letters (number_of xs)
Obeys legal_token xs = (i : ℕ) → i < length xs → LetterDigitOrSpace (get_or xs i 0)
Obeys blank xs = (i : ℕ) → i < length xs → get_or xs i 0 ≡ space

infix 50 ◌∈◌
abbrev pub ◌∈◌ : Field → List Field → Type 0
f ∈ fs = Memᴰ f fs

abbrev pub AllObey : List Field → List ℕ → Type 0
AllObey fs s = (f : Field) → f ∈ fs → Obeys f.rule (part s f.at f.width)

-- a legal message: its length, its type, and every judged field
pub record Legal (l : Layout) (s : List ℕ) : Type 0 where
  pub long : length s ≡ l.size
  pub typed : get_or s 0 0 ≡ l.code
  pub judged : AllObey l.fields s

-- byte q is bad, of a field at `at` with the bytes xs: a text is judged byte by byte, but a number, and a text that is to be blank, as a whole,
-- and is bad from its first byte on
unfoldable pub BadByte : Rule → ℕ → List ℕ → ℕ → Type 0
BadByte free at xs q = ⊥
BadByte (below n) at xs q = (q ≡ at) × (Obeys (below n) xs → ⊥)
BadByte (between low high) at xs q = (q ≡ at) × (Obeys (between low high) xs → ⊥)
BadByte (one_of letters) at xs q = (q ≡ at) × (Obeys (one_of letters) xs → ⊥)
BadByte legal_token at xs q = (i : ℕ) × ((q ≡ at + i) × ((i < length xs) × (LetterDigitOrSpace (get_or xs i 0) → ⊥)))
BadByte blank at xs q = (q ≡ at) × (Obeys blank xs → ⊥)

abbrev pub BadIn : Field → List ℕ → ℕ → Type 0
BadIn f s q = BadByte f.rule f.at (part s f.at f.width) q

-- byte p is bad, and no byte before it is
pub record FirstBad (fs : List Field) (s : List ℕ) (p : ℕ) : Type 0 where
  pub field : Field
  pub among : field ∈ fs
  pub bad : BadIn field s p
  pub first : (f : Field) → f ∈ fs → (q : ℕ) → BadIn f s q → p ≤ q

-- A is so exactly when B is
infix 3 ◌exactly_when◌
abbrev pub ◌exactly_when◌ : Type 0 → Type 0 → Type 0
A exactly_when B = (A → B) × (B → A)

-- Ask 1: the place is 0 exactly when the answer isn't 3
abbrev pub PlaceWith3 : Answer → Type 0
PlaceWith3 answer = answer_place answer ≡ 0 exactly_when (answer_number answer ≡ 3 → ⊥)
