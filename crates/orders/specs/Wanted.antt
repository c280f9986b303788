-- Which live orders an entry is about that names no token (Ask 5).
use Rattle.std.specs.Prelude.{Bool, ℕ, List, Option, None, Some, not, ◌&&◌}
use Rattle.octets.specs.Bytes.{same}
use Rattle.orders.specs.Order.{Order, is_live, ◌is◌}
use Rattle.orders.specs.Flags.{Late}
pub use Rattle.orders.specs.declared.wanted.Wanted.{Wanted}

-- the order has that firm (and that symbol)
abbrev pub meets : List ℕ → Option (List ℕ) → Order → Bool
meets firm None o = same o.details.kept.firm firm
meets firm (Some symbol) o = same o.details.kept.firm firm && same o.details.kept.stock symbol

-- it is live, isn't late, and is one of those
unfoldable pub is_wanted : Wanted → Order → Bool
is_wanted wanted o = is_live o && (not (o is Late) && meets wanted.firm wanted.symbol o)
