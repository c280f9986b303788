-- A number as a row of bits: bit 0 is the lowest, and halving the number brings each bit one place down.
use Rattle.std.specs.Prelude.{ℕ, zero, suc, ◌+◌, ◌*◌, ◌/◌, ◌%◌, Bool, eqb}
use Rattle.octets.specs.Choice.{pick}

-- bit k of the number is set
unfoldable pub bit_of : ℕ → ℕ → Bool
bit_of b zero = eqb (b % 2) 1
bit_of b (suc k) = bit_of (b / 2) k

-- the number with bit k as said, the others as before
unfoldable pub with_bit : ℕ → ℕ → Bool → ℕ
with_bit b zero on = 2 * (b / 2) + pick on 1 0
with_bit b (suc k) on = 2 * with_bit (b / 2) k on + b % 2
