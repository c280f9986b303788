-- The price that an order may have (What each entry does, O, letter X).
use Rattle.std.specs.Prelude.{ℕ, Bool, ◌&&◌, ◌||◌, leb, eqb, Option, Some, None}
use Rattle.octets.specs.Choice.{pick, among}
use Rattle.wire.specs.Letters.{opening_or_closing}
use Rattle.wire.specs.Limits.{lowest_price, highest_price, market_price}
pub use Rattle.wire.specs.declared.price.Price.{Price}

-- 1 to 1,999,999,900, or 2,147,483,647 with cross O or C
unfoldable pub good_price : ℕ → ℕ → Bool
good_price price cross =
    (leb lowest_price price && leb price highest_price) || (eqb price market_price && among opening_or_closing cross)

unfoldable pub priced_of : ℕ → ℕ → Option Price
priced_of price cross = pick (good_price price cross) (Some (record { 0 = price })) None
