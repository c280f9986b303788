-- What is executed of the order that a Cancel names, once further entries were played (Ask 4).
use Rattle.std.specs.Prelude.{ℕ, List}
use Rattle.table.specs.Table.{order_at}
use Rattle.host.specs.Step.{World, step}
use Rattle.laws.specs.Cancels.{its_place}
use Rattle.day.specs.Day.{unlimited}

-- with unlimited room; whatever the outbox, the final table is the same (demand 3)
unfoldable pub executed_later : World → List ℕ → List (List ℕ) → ℕ
executed_later w s ss = (order_at (unlimited (step w s).world.books ss).books.table (its_place w s)).shares.executed.0
