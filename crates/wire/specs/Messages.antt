-- The sixteen messages of document 004, a table each: the type's letter, the length, and a line for each field with its offset. Which fields
-- are judged is the paper's (Messages and entries): tokens and stamps everywhere, side and sweep letters inbound.
use Prim.Native.Char.{code}
use Rattle.answers.specs.declared.Refusal.{Refusal}
use Rattle.std.specs.Prelude.{Result, Ok, Err, Bool, not, ◌&&◌, List, [], ◌∷◌, ◌++◌, map, ℕ, ◌-◌, length, get_or, drop, ltb, eqb, Option, None, Some}
use Rattle.octets.specs.Choice.{pick, first_of◌, ◌⇒◌⨾◌}
use Rattle.answers.specs.Answer.{if_done}
use Rattle.answers.specs.Answer.{Answer}
use Rattle.answers.specs.Answer.{Done, Malformed, BadField, NoRoom}
use Rattle.octets.specs.Bytes.{zeros}
pub use Rattle.wire.specs.declared.messages.Message.{Message}
use Rattle.wire.specs.declared.messages.Message.TheVariants as message
pub use Rattle.wire.specs.declared.body.Reading.{Reading}
use Rattle.wire.specs.Limits.{longest_message}
use Rattle.wire.specs.Layout.{Layout, Field, stamp_at, token_at, side_at, sweep_at, letter_at, whole_at, text_at, first_bad_place, layout_for, shifted}

-- ---- inbound

abbrev pub enter_order : Layout
enter_order = record {
  code = code "O";
  size = 48;
  fields =
      token_at 1  -- Order Token
      ∷ side_at 15  -- Buy/Sell Indicator
      ∷ whole_at 16 4  -- Shares
      ∷ text_at 20 8  -- Stock
      ∷ whole_at 28 4  -- Price
      ∷ whole_at 32 4  -- Time in Force
      ∷ text_at 36 4  -- Firm
      ∷ letter_at 40  -- Display
      ∷ letter_at 41  -- Capacity
      ∷ sweep_at 42  -- Intermarket Sweep Eligibility
      ∷ whole_at 43 4  -- Minimum Quantity
      ∷ letter_at 47  -- Cross Type
      ∷ [];
}

abbrev pub replace_order : Layout
replace_order = record {
  code = code "U";
  size = 47;
  fields =
      token_at 1  -- Existing Order Token
      ∷ token_at 15  -- Replacement Order Token
      ∷ whole_at 29 4  -- Shares
      ∷ whole_at 33 4  -- Price
      ∷ whole_at 37 4  -- Time in Force
      ∷ letter_at 41  -- Display
      ∷ sweep_at 42  -- Intermarket Sweep Eligibility
      ∷ whole_at 43 4  -- Minimum Quantity
      ∷ [];
}

abbrev pub cancel_order : Layout
cancel_order = record {
  code = code "X";
  size = 19;
  fields =
      token_at 1  -- Order Token
      ∷ whole_at 15 4  -- Shares
      ∷ [];
}

abbrev pub modify_order : Layout
modify_order = record {
  code = code "M";
  size = 20;
  fields =
      token_at 1  -- Order Token
      ∷ side_at 15  -- Buy/Sell Indicator
      ∷ whole_at 16 4  -- Shares
      ∷ [];
}

-- ---- outbound

abbrev pub system_event : Layout
system_event = record {
  code = code "S";
  size = 10;
  fields =
      stamp_at 1  -- Timestamp
      ∷ letter_at 9  -- Event Code
      ∷ [];
}

-- what Accepted and Replaced both state of an order
abbrev pub stated : List Field
stated =
    letter_at 23  -- Buy/Sell Indicator
    ∷ whole_at 24 4  -- Shares
    ∷ text_at 28 8  -- Stock
    ∷ whole_at 36 4  -- Price
    ∷ whole_at 40 4  -- Time in Force
    ∷ text_at 44 4  -- Firm
    ∷ letter_at 48  -- Display
    ∷ whole_at 49 8  -- Order Reference Number
    ∷ letter_at 57  -- Capacity
    ∷ letter_at 58  -- Intermarket Sweep Eligibility
    ∷ whole_at 59 4  -- Minimum Quantity
    ∷ letter_at 63  -- Cross Type
    ∷ letter_at 64  -- Order State
    ∷ []

-- and what each has behind that
abbrev pub accepted_rest : List Field
accepted_rest =
    letter_at 65  -- BBO Weight Indicator
    ∷ []

abbrev pub replaced_rest : List Field
replaced_rest =
    token_at 65  -- Previous Order Token
    ∷ letter_at 79  -- BBO Weight Indicator
    ∷ []

abbrev pub accepted : Layout
accepted = record {
  code = code "A";
  size = 66;
  fields =
      stamp_at 1  -- Timestamp
      ∷ token_at 9  -- Order Token
      ∷ (stated ++ accepted_rest);
}

abbrev pub replaced : Layout
replaced = record {
  code = code "U";
  size = 80;
  fields =
      stamp_at 1  -- Timestamp
      ∷ token_at 9  -- Replacement Order Token
      ∷ (stated ++ replaced_rest);
}

abbrev pub canceled : Layout
canceled = record {
  code = code "C";
  size = 28;
  fields =
      stamp_at 1  -- Timestamp
      ∷ token_at 9  -- Order Token
      ∷ whole_at 23 4  -- Decrement Shares
      ∷ letter_at 27  -- Reason
      ∷ [];
}

abbrev pub aiq_cancelled : Layout
aiq_cancelled = record {
  code = code "D";
  size = 37;
  fields =
      stamp_at 1  -- Timestamp
      ∷ token_at 9  -- Order Token
      ∷ whole_at 23 4  -- Decrement Shares
      ∷ letter_at 27  -- Reason
      ∷ whole_at 28 4  -- Quantity Prevented from Trading
      ∷ whole_at 32 4  -- Execution Price
      ∷ letter_at 36  -- Liquidity Flag
      ∷ [];
}

abbrev pub executed : Layout
executed = record {
  code = code "E";
  size = 40;
  fields =
      stamp_at 1  -- Timestamp
      ∷ token_at 9  -- Order Token
      ∷ whole_at 23 4  -- Executed Shares
      ∷ whole_at 27 4  -- Execution Price
      ∷ letter_at 31  -- Liquidity Flag
      ∷ whole_at 32 8  -- Match Number
      ∷ [];
}

abbrev pub broken_trade : Layout
broken_trade = record {
  code = code "B";
  size = 32;
  fields =
      stamp_at 1  -- Timestamp
      ∷ token_at 9  -- Order Token
      ∷ whole_at 23 8  -- Match Number
      ∷ letter_at 31  -- Reason
      ∷ [];
}

abbrev pub rejected : Layout
rejected = record {
  code = code "J";
  size = 24;
  fields =
      stamp_at 1  -- Timestamp
      ∷ token_at 9  -- Order Token
      ∷ letter_at 23  -- Reason
      ∷ [];
}

abbrev pub cancel_pending : Layout
cancel_pending = record {
  code = code "P";
  size = 23;
  fields =
      stamp_at 1  -- Timestamp
      ∷ token_at 9  -- Order Token
      ∷ [];
}

abbrev pub cancel_reject : Layout
cancel_reject = record {
  code = code "I";
  size = 23;
  fields =
      stamp_at 1  -- Timestamp
      ∷ token_at 9  -- Order Token
      ∷ [];
}

abbrev pub priority_update : Layout
priority_update = record {
  code = code "T";
  size = 36;
  fields =
      stamp_at 1  -- Timestamp
      ∷ token_at 9  -- Order Token
      ∷ whole_at 23 4  -- Price
      ∷ letter_at 27  -- Display
      ∷ whole_at 28 8  -- Order Reference Number
      ∷ [];
}

abbrev pub modified : Layout
modified = record {
  code = code "M";
  size = 28;
  fields =
      stamp_at 1  -- Timestamp
      ∷ token_at 9  -- Order Token
      ∷ letter_at 23  -- Buy/Sell Indicator
      ∷ whole_at 24 4  -- Shares
      ∷ [];
}

-- ---- the sixteen as one list

-- U and M are read as inbound or outbound, as the caller says
abbrev pub inbound : List Layout
inbound = enter_order ∷ replace_order ∷ cancel_order ∷ modify_order ∷ []

abbrev pub outbound : List Layout
outbound =
    system_event ∷ accepted ∷ replaced ∷ canceled ∷ aiq_cancelled ∷ executed ∷ broken_trade ∷ rejected ∷ cancel_pending ∷ cancel_reject
    ∷ priority_update ∷ modified ∷ []

abbrev pub messages : List Layout
messages = inbound ++ outbound

abbrev pub no_message : Layout
no_message = record { code = 0; size = 0; fields = [] }

-- message k, the inbound ones first
abbrev pub message_layout : ℕ → Layout
message_layout k = get_or messages k no_message

-- .. and by its name, as code has it
abbrev pub number : Message → ℕ
number message.EnterOrder = 0
number message.ReplaceOrder = 1
number message.CancelOrder = 2
number message.ModifyOrder = 3
number message.SystemEvent = 4
number message.Accepted = 5
number message.Replaced = 6
number message.Canceled = 7
number message.AiqCancelled = 8
number message.Executed = 9
number message.BrokenTrade = 10
number message.Rejected = 11
number message.CancelPending = 12
number message.CancelReject = 13
number message.PriorityUpdate = 14
number message.Modified = 15

-- its fields where it stands so many bytes further on
abbrev pub fields_from : ℕ → ℕ → List Field
fields_from from k = map (shifted from) (message_layout k).fields

abbrev pub size_or0 : Option Layout → ℕ
size_or0 None = 0
size_or0 (Some l) = l.size

-- the length of the message among these with this type, 0 where there is none
unfoldable pub length_for : List Layout → ℕ → ℕ
length_for ls letter = size_or0 (layout_for ls letter)

abbrev pub message_length : Bool → ℕ → ℕ
message_length is_inbound letter = length_for (pick is_inbound inbound outbound) letter

-- ---- readers and writers

-- Ask 1: where there is a first bad place the answer is 3 and tells it; where there is none, what is asked next is answered
infixr 10 bad_at◌⨾◌
abbrev pub bad_at◌⨾◌ : Option ℕ → Answer → Answer
bad_at None ⨾ next = next
bad_at (Some at) ⨾ next = BadField at

-- length and type are right
abbrev pub framed : ℕ → ℕ → List ℕ → Bool
framed size letter s = eqb (length s) size && eqb (get_or s 0 0) letter

-- a reader checks length and type (2), then the judged fields (3)
unfoldable pub read_answer : Layout → List ℕ → Answer
read_answer l s =
    first_of
    not (eqb (length s) l.size) ⇒ Malformed
    ⨾ not (eqb (get_or s 0 0) l.code) ⇒ Malformed
    ⨾ bad_at first_bad_place l.fields s
    ⨾ Done

-- the bytes that a reader takes its fields from: a refused reader's fields are all zero
unfoldable pub legal_or_zeros : Layout → List ℕ → List ℕ
legal_or_zeros l s = if_done (read_answer l s) s (zeros l.size)

-- what the reader of a message gives, whose fields are those that `of` takes from its bytes
abbrev pub read_as : {M : Type 0} → Layout → (List ℕ → M) → List ℕ → Reading M
read_as l of s = record { answer = read_answer l s; body = of (legal_or_zeros l s) }

-- what a done call gives, and else why it is refused
abbrev pub where_done : {A : Type 0} → Answer → A → Result A Refusal
where_done (Ok done) a = Ok a
where_done (Err r) a = Err r

-- a message at the front of as many bytes as the longest has, with zeros behind it
unfoldable pub in_eighty : List ℕ → List ℕ
in_eighty m = m ++ zeros (longest_message - length m)

-- a writer makes the same checks of what it is to write (3), then room (13)
unfoldable pub write_answer : Layout → List ℕ → List ℕ → Answer
write_answer l bytes buffer =
    first_of
    bad_at first_bad_place l.fields bytes
    ⨾ ltb (length buffer) l.size ⇒ NoRoom
    ⨾ Done

-- the buffer after it: bytes after the message stay, and a refused writer changes none
unfoldable pub buffer_after : Layout → List ℕ → List ℕ → List ℕ
buffer_after l bytes buffer = if_done (write_answer l bytes buffer) (bytes ++ drop l.size buffer) buffer
