-- The entries of a tape, judged and read (Messages and entries; Answer numbers 2 and 3).
use Rattle.std.specs.Prelude.{ℕ, Bool, not, ◌&&◌, List, length, drop, get_or, leb, eqb, Option}
use Rattle.octets.specs.Choice.{first_of◌, ◌⇒◌⨾◌}
use Rattle.answers.specs.Answer.{Answer}
use Rattle.answers.specs.Answer.{Done, Malformed}
use Rattle.wire.specs.Layout.{stamp_at, token_at, first_bad_place, get, reading}
use Rattle.wire.specs.Messages.{bad_at◌⨾◌}
use Rattle.wire.specs.Shares.{removed}
use Rattle.inbound.specs.Inbound.{enter_order_of, replace_order_of, cancel_order_of, modify_order_of}
use Rattle.inbound.specs.declared.enter_order.EnterOrder.{EnterOrder}
use Rattle.inbound.specs.declared.replace_order.ReplaceOrder.{ReplaceOrder}
use Rattle.inbound.specs.declared.cancel_order.CancelOrder.{CancelOrder}
use Rattle.inbound.specs.declared.modify_order.ModifyOrder.{ModifyOrder}
use Rattle.tape.specs.Kinds.{kind_of, layout_of, execution_entry, book_cancel_entry, self_match_entry, priority_entry, system_entry, stock_entry, purge_entry, disable_entry}
pub use Rattle.tape.specs.declared.entry.Execution.{Execution}
pub use Rattle.tape.specs.declared.entry.BookCancel.{BookCancel}
pub use Rattle.tape.specs.declared.entry.SelfMatch.{SelfMatch}
pub use Rattle.tape.specs.declared.entry.Priority.{Priority}
pub use Rattle.tape.specs.declared.entry.System.{System}
pub use Rattle.tape.specs.declared.entry.StockState.{StockState}
pub use Rattle.tape.specs.declared.entry.Purge.{Purge}
pub use Rattle.tape.specs.declared.entry.Blocking.{Blocking}

-- ---- judging

-- kind known and length the kind's: otherwise 2. (What is no kind has length 0, and no kind has.)
unfoldable pub well_formed : List ℕ → Bool
well_formed s =
    let size = (layout_of (kind_of s)).size in
    not (eqb size 0) && eqb (length s) size

-- where the first bad byte of an entry stands, if there is one: then 3
unfoldable pub bad_place_of : List ℕ → Option ℕ
bad_place_of s = first_bad_place (layout_of (kind_of s)).fields s

-- what judging an entry answers; the place that 3 tells is counted from the kind byte as 0 (Ask 1)
unfoldable pub entry_answer : List ℕ → Answer
entry_answer s =
    first_of
    not (well_formed s) ⇒ Malformed
    ⨾ bad_at bad_place_of s
    ⨾ Done

-- ---- reading

unfoldable pub stamp_of : List ℕ → ℕ
stamp_of s = get (stamp_at 1) s

-- every kind but s h w d n has a token behind its stamp, and no entry of those five is as long
abbrev pub token_end : ℕ
token_end = 23

unfoldable pub names_order : List ℕ → Bool
names_order s = leb token_end (length s)

-- a w names an order by its firm and symbol (Ask 5)
unfoldable pub purges : List ℕ → Bool
purges s = eqb (get_or s 0 0) purge_entry.code

-- the token that an entry names first: the order that it is about, and in O the new one
unfoldable pub token_of : List ℕ → List ℕ
token_of s = get (token_at 9) s

-- the inbound message that O U X M carry. It stands from the eighth byte on, but for its type, in whose place is the stamp's last byte: no
-- field looks there
unfoldable pub message_in : List ℕ → List ℕ
message_in s = drop 8 s

unfoldable pub enter_of : List ℕ → EnterOrder
enter_of s = enter_order_of (message_in s)

unfoldable pub replace_of : List ℕ → ReplaceOrder
replace_of s = replace_order_of (message_in s)

unfoldable pub cancel_of : List ℕ → CancelOrder
cancel_of s = cancel_order_of (message_in s)

unfoldable pub modify_of : List ℕ → ModifyOrder
modify_of s = modify_order_of (message_in s)

unfoldable pub execution_of : List ℕ → Execution
execution_of s =
    reading execution_entry.fields s λ _ _ shares price flag number.
    record { shares = removed shares; price = price; flag = flag; match_number = number }

unfoldable pub book_cancel_of : List ℕ → BookCancel
book_cancel_of s =
    reading book_cancel_entry.fields s λ _ _ shares reason.
    record { shares = removed shares; reason = reason }

unfoldable pub self_match_of : List ℕ → SelfMatch
self_match_of s =
    reading self_match_entry.fields s λ _ _ shares prevented price flag.
    record { shares = removed shares; prevented = removed prevented; price = price; flag = flag }

unfoldable pub priority_of : List ℕ → Priority
priority_of s =
    reading priority_entry.fields s λ _ _ price.
    record { price = price }

unfoldable pub system_of : List ℕ → System
system_of s =
    reading system_entry.fields s λ _ event.
    record { event = event }

unfoldable pub stock_state_of : List ℕ → StockState
stock_state_of s =
    reading stock_entry.fields s λ _ symbol state.
    record { symbol = symbol; state = state }

unfoldable pub purge_of : List ℕ → Purge
purge_of s =
    reading purge_entry.fields s λ _ firm symbol.
    record { firm = firm; symbol = symbol }

-- d and n have the same fields
unfoldable pub blocking_of : List ℕ → Blocking
blocking_of s =
    reading disable_entry.fields s λ _ firm.
    record { firm = firm }
