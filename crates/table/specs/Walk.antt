-- One walk over records, for what is asked of each (Ask 6). This is about an inner function: what a sound table is, is said in Table.
use Rattle.std.specs.Prelude.{ℕ, Option, List}
use Rattle.std.specs.Bool.{then_some}
use Rattle.octets.specs.Choice.{all_below}
use Rattle.orders.specs.Sound.{record_sound}
use Rattle.table.specs.Table.{record_bytes, sum_below, open_at}

-- how much is open of the first n records, if all of them are sound
unfoldable pub found_in : List ℕ → ℕ → Option ℕ
found_in t n = then_some (all_below n (λ i. record_sound (record_bytes t i))) (sum_below n (open_at t))
