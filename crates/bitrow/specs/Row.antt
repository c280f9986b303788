-- A row of bits in bytes: bit i is bit i % 8, the lowest first, of byte i / 8. It holds one answer a record: 'this one is live' (Ask 6).
use Rattle.std.specs.Prelude.{ℕ, zero, suc, ◌+◌, ◌-◌, ◌*◌, ◌/◌, ◌%◌, Bool, not, List, [], ◌∷◌, length, get_or, ltb}
use Rattle.octets.specs.Choice.{pick, all_below, count_below}
use Rattle.octets.specs.Bytes.{put}
use Rattle.octets.specs.Bits.{bit_of, with_bit}

-- how many bytes n bits take
unfoldable pub bytes_for : ℕ → ℕ
bytes_for n = (n + 7) / 8

-- bit i of the row is set; past the row none is
unfoldable pub bit_at : List ℕ → ℕ → Bool
bit_at xs i = bit_of (get_or xs (i / 8) 0) (i % 8)

-- the row with bit i as said, the others as before; past the row there is no such bit, and the row stays
unfoldable pub with_bit_at : List ℕ → ℕ → Bool → List ℕ
with_bit_at xs i on = pick (ltb i (8 * length xs)) (put xs (i / 8) (with_bit (get_or xs (i / 8) 0) (i % 8) on ∷ [])) xs

-- how many bits of the row are set: 'count_ones totals the live orders' (Ask 6)
unfoldable pub ones_in : List ℕ → ℕ
ones_in xs = count_below (8 * length xs) (bit_at xs)

-- no bit is set from bit n on
unfoldable pub clear_from : List ℕ → ℕ → Bool
clear_from xs n = all_below (8 * length xs - n) (λ j. not (bit_at xs (n + j)))

-- the number whose bit j, for each j below w, is what p says of j
unfoldable pub packed : ℕ → (ℕ → Bool) → ℕ
packed zero p = 0
packed (suc w) p = with_bit (packed w p) w (p w)
