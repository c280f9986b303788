-- The loop's invariant: the bits of the j records passed are made.
use Rattle.octets.proofs.Proving.{Bool, List, ◌*◌, ◌+◌, ◌≡◌, ℕ}
use Rattle.bitrow.specs.Row.{packed}
use Rattle.orders.specs.Order.{is_live}
use Rattle.table.specs.Table.{order_at}
use Rattle.table.proofs.sound.eight_live.Given as goal

abbrev pub live : List ℕ → ℕ → ℕ → Bool
live t at j = is_live (order_at t (8 * at + j))

abbrev pub invariant-loop-j : goal.invariant-loop-j
invariant-loop-j l = l.byte ≡ packed l.j (live l.table l.at)
