-- Each arm looks at the fields of its shape, in their order. Assumes nothing.
use Rattle.wire.specs.Layout.{token_at, liquidity_at, book_reason_at, limit_price_at, system_event_at, stock_state_at, first_bad_place}
use Rattle.wire.proofs.Found.{one, two}
use Rattle.tape.proofs.judging.bad_behind.Goals as goal

pub returns-in-Token : goal.returns-in-Token
returns-in-Token c = rw c.in-Token.is (one (token_at 9) _ c.bad_token.ensures)

pub returns-in-Flag : goal.returns-in-Flag
returns-in-Flag c = rw c.in-Flag.is (two (token_at 9) (liquidity_at _) _ c.or.ensures c.bad_token-in-Flag.ensures c.bad_liquidity_flag.ensures)

pub returns-in-Reason : goal.returns-in-Reason
returns-in-Reason c = rw c.in-Reason.is (two (token_at 9) (book_reason_at _) _ c.or-in-Reason.ensures c.bad_token-in-Reason.ensures c.bad_book_reason.ensures)

pub returns-in-Price : goal.returns-in-Price
returns-in-Price c = rw c.in-Price.is (two (token_at 9) (limit_price_at 23) _ c.or-in-Price.ensures c.bad_token-in-Price.ensures c.bad_limit_price.ensures)

pub returns-in-Event : goal.returns-in-Event
returns-in-Event c = rw c.in-Event.is (one (system_event_at 9) _ c.bad_system_event.ensures)

pub returns-in-State : goal.returns-in-State
returns-in-State c = rw c.in-State.is (one (stock_state_at 17) _ c.bad_stock_state.ensures)

pub returns-in-Nothing : goal.returns-in-Nothing
unfolding first_bad_place
returns-in-Nothing c = rw c.in-Nothing.is
