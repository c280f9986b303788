-- The outbox is a ring of 80 to 65,536 bytes (Table and outbox).
use Rattle.std.specs.Prelude.{ℕ}

abbrev pub shortest_ring : ℕ
shortest_ring = 80

abbrev pub longest_ring : ℕ
longest_ring = 65_536
