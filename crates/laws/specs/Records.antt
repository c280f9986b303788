-- What is true of every used record of a sound table (What each entry does, last paragraph).
use Rattle.std.specs.Prelude.{ℕ, ◌<◌, ◌≡◌, List}
use Rattle.wire.specs.Letters.{live, dead}
use Rattle.orders.specs.Counts.{gone, open_shares}
use Rattle.orders.specs.declared.order.Order.{Order}
use Rattle.table.specs.Table.{header, order_at}

-- an order whose open reaches 0 is dead, and a dead record's liable is executed + self-matched
pub record Paper (o : Order) : Type 0 where
  pub spent : (open_shares o.shares).0 ≡ 0 → o.state ≡ live → ⊥
  pub dead-liable : o.state ≡ dead → o.shares.liable ≡ gone o.shares

abbrev pub EveryRecord : List ℕ → Type 0
EveryRecord t = (i : ℕ) → i < (header t).used → Paper (order_at t i)
