-- A stamp as the time of day (Messages and entries: a stamp counts the nanoseconds since midnight).
use Rattle.std.specs.Prelude.{ℕ, ◌/◌, ◌%◌, List, [], ◌∷◌}
use Prim.Native.Char.{code}
use Rattle.octets.specs.Bytes.{joined}
use Rattle.io.specs.Digits.{last_digits}

abbrev pub nine_digits : ℕ → List ℕ
nine_digits n = last_digits 10 9 n

-- what stands behind a price's point: its last four digits
abbrev pub four_digits : ℕ → List ℕ
four_digits n = last_digits 10 4 n

-- hh:mm:ss.nnnnnnnnn
unfoldable pub clock : ℕ → List ℕ
clock stamp =
    let seconds = stamp / 1000000000 in
    let minutes = seconds / 60 in
    joined
    (last_digits 10 2 (minutes / 60) ∷ (code ":" ∷ []) ∷ last_digits 10 2 (minutes % 60) ∷ (code ":" ∷ []) ∷ last_digits 10 2 (seconds % 60) ∷ (code "." ∷ [])
    ∷ nine_digits (stamp % 1000000000) ∷ [])
