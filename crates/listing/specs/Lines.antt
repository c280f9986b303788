-- The listing's lines (Worked numbers: 'prints exactly'): fixed words, and numbers between them.
use Rattle.std.specs.Prelude.{ℕ, zero, suc, ◌+◌, ◌/◌, ◌≤◌, ◌≡◌, List, [], ◌∷◌, ◌++◌, length, take, get_or, ltb, eqb}
use Prim.Native.Char.{code}
use Rattle.io.specs.Digits.{last_digits}
use Rattle.octets.specs.Choice.{pick, text}
use Rattle.octets.specs.Bytes.{joined}
pub use Rattle.listing.specs.declared.shown.Shown.{Shown}

-- how many decimal digits hold n, where `more` above the first are enough
unfoldable pub places_within : ℕ → ℕ → ℕ
places_within zero n = 1
places_within (suc more) n = pick (ltb n 10) 1 (suc (places_within more (n / 10)))

-- twenty hold every number below 2 ^ 64
unfoldable pub decimal : ℕ → List ℕ
decimal n = last_digits 10 (places_within 19 n) n

abbrev pub space : ℕ
space = code " "

abbrev pub newline : ℕ
newline = code "\n"

abbrev pub spaced : List ℕ → List ℕ
spaced word = space ∷ word ++ (space ∷ [])

-- ---- a line that grows

abbrev pub width : ℕ
width = 144

-- n bytes more have room
abbrev pub Fits : Shown → ℕ → Type 0
Fits shown n = (shown.len + n ≤ width) × (length shown.bytes ≡ width)

-- the words stand behind what was there
pub record Adds (before : Shown) (words : List ℕ) (after : Shown) : Type 0 where
  pub spelled : take after.len after.bytes ≡ take before.len before.bytes ++ words
  pub longer : after.len ≡ before.len + length words
  pub wide : length after.bytes ≡ width

-- the text stands in front, and all of it is there
pub record Says (shown : Shown) (text : List ℕ) : Type 0 where
  pub spelled : take shown.len shown.bytes ≡ text
  pub long : shown.len ≡ length text
  pub wide : length shown.bytes ≡ width

-- ---- the lines

abbrev pub in_hex : ℕ → List ℕ
in_hex kind = spaced (last_digits 16 2 kind)

-- 'entry number, kind in hex, answer, type sent or a dash'
unfoldable pub line : ℕ → ℕ → ℕ → ℕ → List ℕ
line number kind answer sent =
    joined (decimal number ∷ in_hex kind ∷ decimal answer ∷ (space ∷ sent ∷ newline ∷ []) ∷ [])

-- 'type sent or a dash', of the bytes that were sent
unfoldable pub type_shown : List ℕ → ℕ
type_shown sent = pick (eqb (length sent) 0) (code "-") (get_or sent 0 0)

-- 'entries answered 0, bytes sent'
unfoldable pub last_line : ℕ → ℕ → List ℕ
last_line taken sent = joined (text "taken " ∷ decimal taken ∷ text " bytes " ∷ decimal sent ∷ (newline ∷ []) ∷ [])

-- the first `len` bytes are the text, and all of them are there
pub record Shows (shown : Shown) (text : List ℕ) : Type 0 where
  pub spelled : take shown.len shown.bytes ≡ text
  pub within : shown.len ≤ length shown.bytes
