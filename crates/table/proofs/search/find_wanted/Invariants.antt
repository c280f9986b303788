-- The loop's invariant: none of the records whose bits were passed is wanted.
use Rattle.octets.proofs.Proving.{Bool, List, ◌&&◌, ◌*◌, ◌<◌, ◌≡◌, false, ltb, ℕ}
use Rattle.orders.specs.Wanted.{is_wanted}
use Rattle.orders.specs.declared.wanted.Wanted.{Wanted}
use Rattle.table.specs.Table.{order_at, is_marked}
use Rattle.table.proofs.search.find_wanted.Given as goal

abbrev pub passes : List ℕ → Wanted → ℕ → ℕ → Bool
passes t wanted n j = is_marked t j && (ltb j n && is_wanted wanted (order_at t j))

abbrev pub invariant-loop-at : goal.invariant-loop-at
invariant-loop-at l = (j : ℕ) → j < 8 * l.at → passes l.table l.wanted l.n j ≡ false
