-- The kinds of entry (Messages and entries): one byte of kind, then a body whose length the kind fixes.
use Rattle.std.specs.Prelude.{ℕ, ◌+◌, List, [], ◌∷◌, map, get_or, eqb}
use Prim.Native.Char.{code}
use Rattle.octets.specs.Choice.{first_of◌, ◌⇒◌⨾◌}
use Rattle.wire.specs.Layout.{Layout, stamp_at, token_at, whole_at, liquidity_at, book_reason_at, system_event_at, stock_state_at, limit_price_at, text_at, shifted}
use Rattle.wire.specs.Messages.{enter_order, replace_order, cancel_order, modify_order, no_message}
pub use Rattle.tape.specs.declared.kinds.Kind.{Kind}
pub use Rattle.tape.specs.declared.kinds.Kind.TheVariants.{Enters, Replaces, Cancels, Modifies, Executes, BookCancels, SelfMatches, Prioritises, TurnsLate, EndsCross, TellsDay, SetsStock, Purges, Disables, Enables, Unknown}

-- every body opens with an 8-byte stamp; then the inbound message without its type
abbrev pub stamped : Layout → Layout
stamped m = record { code = m.code; size = m.size + 8; fields = stamp_at 1 ∷ map (shifted 8) m.fields }

abbrev pub enter_entry : Layout
enter_entry = stamped enter_order

abbrev pub replace_entry : Layout
replace_entry = stamped replace_order

abbrev pub cancel_entry : Layout
cancel_entry = stamped cancel_order

abbrev pub modify_entry : Layout
modify_entry = stamped modify_order

abbrev pub execution_entry : Layout
execution_entry = record {
  code = code "e";
  size = 40;
  fields =
      stamp_at 1
      ∷ token_at 9
      ∷ whole_at 23 4  -- shares
      ∷ whole_at 27 4  -- price
      ∷ liquidity_at 31  -- flag
      ∷ whole_at 32 8  -- match
      ∷ [];
}

abbrev pub book_cancel_entry : Layout
book_cancel_entry = record {
  code = code "c";
  size = 28;
  fields =
      stamp_at 1
      ∷ token_at 9
      ∷ whole_at 23 4  -- shares
      ∷ book_reason_at 27  -- reason
      ∷ [];
}

abbrev pub self_match_entry : Layout
self_match_entry = record {
  code = code "q";
  size = 36;
  fields =
      stamp_at 1
      ∷ token_at 9
      ∷ whole_at 23 4  -- shares
      ∷ whole_at 27 4  -- prevented
      ∷ whole_at 31 4  -- price
      ∷ liquidity_at 35  -- flag
      ∷ [];
}

abbrev pub priority_entry : Layout
priority_entry = record {
  code = code "p";
  size = 27;
  fields =
      stamp_at 1
      ∷ token_at 9
      ∷ limit_price_at 23  -- price
      ∷ [];
}

abbrev pub late_entry : Layout
late_entry = record { code = code "l"; size = 23; fields = stamp_at 1 ∷ token_at 9 ∷ [] }

abbrev pub cross_done_entry : Layout
cross_done_entry = record { code = code "f"; size = 23; fields = stamp_at 1 ∷ token_at 9 ∷ [] }

abbrev pub system_entry : Layout
system_entry = record { code = code "s"; size = 10; fields = stamp_at 1 ∷ system_event_at 9 ∷ [] }

-- Ask 2
abbrev pub stock_entry : Layout
stock_entry = record {
  code = code "h";
  size = 18;
  fields =
      stamp_at 1
      ∷ text_at 9 8  -- symbol
      ∷ stock_state_at 17  -- state
      ∷ [];
}

-- Ask 5: the firm, and the symbol or eight spaces for all
abbrev pub purge_entry : Layout
purge_entry = record {
  code = code "w";
  size = 21;
  fields =
      stamp_at 1
      ∷ text_at 9 4  -- firm
      ∷ text_at 13 8  -- symbol
      ∷ [];
}

abbrev pub disable_entry : Layout
disable_entry = record { code = code "d"; size = 13; fields = stamp_at 1 ∷ text_at 9 4 ∷ [] }

abbrev pub enable_entry : Layout
enable_entry = record { code = code "n"; size = 13; fields = stamp_at 1 ∷ text_at 9 4 ∷ [] }

abbrev pub layout_of : Kind → Layout
layout_of Enters = enter_entry
layout_of Replaces = replace_entry
layout_of Cancels = cancel_entry
layout_of Modifies = modify_entry
layout_of Executes = execution_entry
layout_of BookCancels = book_cancel_entry
layout_of SelfMatches = self_match_entry
layout_of Prioritises = priority_entry
layout_of TurnsLate = late_entry
layout_of EndsCross = cross_done_entry
layout_of TellsDay = system_entry
layout_of SetsStock = stock_entry
layout_of Purges = purge_entry
layout_of Disables = disable_entry
layout_of Enables = enable_entry
layout_of Unknown = no_message

-- ---- the kind of an entry

-- the kind whose letter a byte is
unfoldable pub kind_by : ℕ → Kind
kind_by b =
    first_of
    eqb b enter_entry.code ⇒ Enters
    ⨾ eqb b replace_entry.code ⇒ Replaces
    ⨾ eqb b cancel_entry.code ⇒ Cancels
    ⨾ eqb b modify_entry.code ⇒ Modifies
    ⨾ eqb b execution_entry.code ⇒ Executes
    ⨾ eqb b book_cancel_entry.code ⇒ BookCancels
    ⨾ eqb b self_match_entry.code ⇒ SelfMatches
    ⨾ eqb b priority_entry.code ⇒ Prioritises
    ⨾ eqb b late_entry.code ⇒ TurnsLate
    ⨾ eqb b cross_done_entry.code ⇒ EndsCross
    ⨾ eqb b system_entry.code ⇒ TellsDay
    ⨾ eqb b stock_entry.code ⇒ SetsStock
    ⨾ eqb b purge_entry.code ⇒ Purges
    ⨾ eqb b disable_entry.code ⇒ Disables
    ⨾ eqb b enable_entry.code ⇒ Enables
    ⨾ Unknown

-- an entry's first byte is its kind
unfoldable pub kind_of : List ℕ → Kind
kind_of s = kind_by (get_or s 0 0)

-- the length that a kind's letter fixes; 0 for a byte that is no kind
unfoldable pub entry_length : ℕ → ℕ
entry_length letter = (layout_of (kind_by letter)).size
