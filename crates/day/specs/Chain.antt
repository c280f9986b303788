-- Chains of replacements, and what was executed along them by the messages that went out (What each entry does, U and the last paragraph).
use Rattle.std.specs.Prelude.{ℕ, zero, suc, ◌+◌, ◌&&◌, List, [], ◌∷◌, eqb, get_or}
use Rattle.octets.specs.Choice.{pick}
use Rattle.octets.specs.Bytes.{same}
use Rattle.wire.specs.Messages.{executed}
use Rattle.outbound.specs.Outbound.{executed_of}
use Rattle.orders.specs.Order.{is_used}
use Rattle.table.specs.Table.{order_named}

-- what a message tells as executed under a token
unfoldable pub executed_by : List ℕ → List ℕ → ℕ
executed_by token m = pick (eqb (get_or m 0 0) executed.code && same (executed_of m).token token) (executed_of m).shares.0 0

-- what all of them tell
unfoldable pub executed_in : List ℕ → List (List ℕ) → ℕ
executed_in token [] = 0
executed_in token (m ∷ ms) = executed_by token m + executed_in token ms

-- the tokens of a chain from its end back: a token, the one that it replaced, and so on, n at most
unfoldable pub chain : List ℕ → ℕ → List ℕ → List (List ℕ)
chain t zero token = []
chain t (suc n) token =
    let o = order_named t token in
    pick (is_used o) (token ∷ chain t n o.details.previous) []

-- what the messages tell as executed along a chain
unfoldable pub executed_along : List (List ℕ) → List (List ℕ) → ℕ
executed_along [] ms = 0
executed_along (token ∷ tokens) ms = executed_in token ms + executed_along tokens ms
