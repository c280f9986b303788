-- The checks of an entry about an order (Answer numbers, in order of checking: 5, 7, 6).
use Rattle.std.specs.Prelude.{Bool, not}
use Rattle.octets.specs.Choice.{first_of◌, ◌⇒◌⨾◌}
use Rattle.orders.specs.Order.{is_live}
use Rattle.market.specs.Types.{Answer, Done, NotLive, WrongMoment, WrongShares, Order}

-- whether the moment and the shares are right is what the kinds differ in
unfoldable pub market_answer : Order → Bool → Bool → Answer
market_answer o moment shares =
    first_of
    not (is_live o) ⇒ NotLive
    ⨾ not moment ⇒ WrongMoment
    ⨾ not shares ⇒ WrongShares
    ⨾ Done
