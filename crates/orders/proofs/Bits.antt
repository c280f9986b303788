-- A flag is set and cleared by its own bit alone: what is set fits a byte, and what is cleared was there. Assumes nothing.
use Rattle.octets.proofs.Proving.{◌%◌, ◌+◌, ◌/◌, ◌<◌, ◌≡◌, ◌≤◌, arith, eqb-false, eqb-true, false, true, ℕ}
use Rattle.orders.specs.Flags.{Flag, Late, Pending, RejectSent, bit_of, has_flag}

pub bit-positive : (flag : Flag) → 1 ≤ bit_of flag
bit-positive Late = omega arith
bit-positive Pending = omega arith
bit-positive RejectSent = omega arith

pub set-fits : (flags : ℕ) (flag : Flag) → flags < 256 → has_flag flags flag ≡ false → flags + bit_of flag < 256
unfolding has_flag
set-fits flags Late h off = omega (arith, eqb-false (flags / 1 % 2) 1 off)
set-fits flags Pending h off = omega (arith, eqb-false (flags / 2 % 2) 1 off)
set-fits flags RejectSent h off = omega (arith, eqb-false (flags / 4 % 2) 1 off)

pub clear_within : (flags : ℕ) (flag : Flag) → has_flag flags flag ≡ true → bit_of flag ≤ flags
unfolding has_flag
clear_within flags Late on = omega (arith, eqb-true (flags / 1 % 2) 1 on)
clear_within flags Pending on = omega (arith, eqb-true (flags / 2 % 2) 1 on)
clear_within flags RejectSent on = omega (arith, eqb-true (flags / 4 % 2) 1 on)
