-- The loop's invariant: what is left are the bits that were not looked at, and none of the others is of a record that is wanted. The measure is what
-- is left, as a number. Assumes nothing.
use Rattle.octets.proofs.Proving.{Bool, List, ◌&&◌, ◌*◌, ◌+◌, ◌≡◌, get_or, ltb, ℕ}
use Rattle.orders.specs.Wanted.{is_wanted}
use Rattle.orders.specs.declared.wanted.Wanted.{Wanted}
use Rattle.table.specs.Table.{order_at, bit_bytes}
use Rattle.table.proofs.Eight.{Looking}
use Rattle.table.proofs.search.among_eight.Given as goal

abbrev pub test : List ℕ → Wanted → ℕ → ℕ → ℕ → Bool
test t wanted n at j = ltb (8 * at + j) n && is_wanted wanted (order_at t (8 * at + j))

abbrev pub invariant-loop-left : goal.invariant-loop-left
invariant-loop-left l = (l.initial.left ≡ get_or (bit_bytes l.table) l.at 0) × Looking l.initial.left (test l.table l.wanted l.n l.at) l.left

abbrev pub decreases-loop-left : goal.decreases-loop-left
decreases-loop-left l = l.left
