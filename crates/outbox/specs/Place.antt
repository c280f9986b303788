-- Where the part that a read hands back lies: an address is a block of memory and a byte of it, and the part begins at the read place.
use Rattle.std.specs.Prelude.{ℕ, ◌+◌}
use Rattle.octets.specs.Choice.{pick}
use Rattle.outbox.specs.Outbox.{Marks, ring_good}

-- the place of the part's first byte; over a wrong length or wrong marks the part is empty and stands at the ring's start
unfoldable pub read_place : ℕ → Marks → ℕ
read_place n m = pick (ring_good n m) m.at 0

-- the address that many bytes on
abbrev pub on_by : ℕ → ℕ × ℕ → ℕ × ℕ
on_by bytes address = (address.0, bytes + address.1)
