-- The flags of a record, each a bit of byte 64 (Table and outbox, Record: 1 late, 2 pending, 4 cancel reject sent).
use Rattle.std.specs.Prelude.{ℕ, ◌+◌, ◌-◌, ◌/◌, ◌%◌, Bool, eqb}
use Rattle.octets.specs.Choice.{pick}
pub use Rattle.orders.specs.declared.flags.Flag.{Flag}
pub use Rattle.orders.specs.declared.flags.Flag.TheVariants.{Late, Pending, RejectSent}

abbrev pub bit_of : Flag → ℕ
bit_of Late = 1
bit_of Pending = 2
bit_of RejectSent = 4

unfoldable pub has_flag : ℕ → Flag → Bool
has_flag flags flag = eqb (flags / bit_of flag % 2) 1

-- the other bits stay
unfoldable pub set_flag : ℕ → Flag → ℕ
set_flag flags flag = pick (has_flag flags flag) flags (flags + bit_of flag)

unfoldable pub clear_flag : ℕ → Flag → ℕ
clear_flag flags flag = pick (has_flag flags flag) (flags - bit_of flag) flags
