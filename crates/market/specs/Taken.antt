-- e c q: shares are executed, canceled by the book, or taken off to prevent a self match (What each entry does, e c q). An order whose open
-- reaches 0 is dead.
use Rattle.std.specs.Prelude.{Bool, true, not, ◌||◌, eqb}
use Rattle.wire.specs.Shares.{◌exceeds◌}
use Rattle.orders.specs.Counts.{open_shares, cut, executing, self_matching}
use Rattle.orders.specs.Order.{dead_if_spent}
use Rattle.header.specs.Header.{is_open_day}
use Rattle.rules.specs.Plan.{allowed, changing}
use Rattle.market.specs.Guards.{market_answer}
use Rattle.market.specs.Types.{Canceled, Executed, AiqCancelled, Decision, Removed, Order, Header, Execution, BookCancel, SelfMatch}

-- 6: shares 0 or above open
unfoldable pub shares_right : Order → Removed → Bool
shares_right o shares = not (eqb shares.0 0 || shares exceeds open_shares o.shares)

-- Executed, executed grows
unfoldable pub execution_rule : Header → Order → Execution → Decision
execution_rule h o e =
    allowed (market_answer o (is_open_day h) (shares_right o e.shares))
    (changing (dead_if_spent o (executing o.shares e.shares)) (Executed e))

-- Canceled, liable falls; the book may cancel on any day
unfoldable pub book_cancel_rule : Order → BookCancel → Decision
book_cancel_rule o e =
    allowed (market_answer o true (shares_right o e.shares))
    (changing (dead_if_spent o (cut o.shares e.shares)) (Canceled e.shares e.reason))

-- AIQ Cancelled, self-matched grows
unfoldable pub self_match_rule : Header → Order → SelfMatch → Decision
self_match_rule h o e =
    allowed (market_answer o (is_open_day h) (shares_right o e.shares))
    (changing (dead_if_spent o (self_matching o.shares e.shares)) (AiqCancelled e))
