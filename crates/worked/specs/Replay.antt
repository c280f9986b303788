-- The tape of the paper's program (Worked numbers, last paragraphs): start, a good Enter, Cancel 0 and the same Cancel again.
use Rattle.std.specs.Prelude.{ℕ, ◌+◌, List, [], ◌∷◌, map, length, get_or}
use Prim.Native.Char.{code}
use Rattle.worked.specs.Play.{practice, host, play}
use Rattle.worked.specs.Entries.{start, enter, cancel}

unfoldable pub tape : List (List ℕ)
tape = start ∷ enter "A" 500 10_000 99_999 "N" ∷ cancel "A" 0 ∷ cancel "A" 0 ∷ []

unfoldable pub type_sent : List ℕ → ℕ
type_sent message = get_or message 0 (code "-")

unfoldable pub bytes_sent : List (List ℕ) → ℕ
bytes_sent [] = 0
bytes_sent (m ∷ ms) = length m + bytes_sent ms

-- the columns `answer` and `sent`, and the bytes of the last line, of a host with n records and a ring of r bytes
unfoldable pub replayed : ℕ → ℕ → List ℕ × List ℕ × ℕ
replayed n r =
    let p = play (host practice n r) tape in
    (p.answers, map type_sent p.sent, bytes_sent p.sent)
