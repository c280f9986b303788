-- A record of the table as a value (Table and outbox, Record).
use Rattle.std.specs.Prelude.{ℕ, Bool, not, List, [], ◌∷◌, eqb}
use Rattle.octets.specs.Choice.{pick}
use Rattle.wire.specs.Letters.{live, dead, rejected_token}
use Rattle.wire.specs.Limits.{token_size}
use Rattle.orders.specs.Limits.{record_size}
use Rattle.octets.specs.Bytes.{zeros}
use Rattle.wire.specs.Layout.{Field, token_at, letter_at, whole_at, text_at, FromFields, reading, laid}
use Rattle.wire.specs.Shares.{total, removed}
use Rattle.wire.specs.declared.shares.Removed.{Removed}
use Rattle.orders.specs.Counts.{Counts, open_shares, cut, new_counts}
use Rattle.orders.specs.Flags.{Flag, has_flag, set_flag, clear_flag}
pub use Rattle.orders.specs.declared.order.Kept.{Kept}
pub use Rattle.orders.specs.declared.order.Terms.{Terms}
pub use Rattle.orders.specs.declared.order.Details.{Details}
pub use Rattle.orders.specs.declared.order.Order.{Order}

abbrev pub record_layout : List Field
record_layout =
    letter_at 0  -- state: L live, D dead, R rejected token
    ∷ token_at 1  -- token
    ∷ letter_at 15  -- side
    ∷ whole_at 16 4  -- liable
    ∷ whole_at 20 4  -- executed
    ∷ whole_at 24 4  -- self-matched
    ∷ text_at 28 8  -- stock
    ∷ whole_at 36 4  -- price
    ∷ whole_at 40 4  -- time in force
    ∷ text_at 44 4  -- firm
    ∷ letter_at 48  -- display
    ∷ letter_at 49  -- capacity
    ∷ letter_at 50  -- sweep
    ∷ whole_at 51 4  -- minimum
    ∷ letter_at 55  -- cross
    ∷ whole_at 56 8  -- reference
    ∷ letter_at 64  -- flags: 1 late, 2 pending, 4 cancel reject sent
    ∷ text_at 65 token_size  -- previous token or zeros
    ∷ letter_at 79  -- zero in every record that a step adds; judged only in a rejected token
    ∷ []

-- the fields, in their order, as an order
abbrev pub order_fields : FromFields record_layout Order
order_fields state token side liable executed matched stock price time firm display capacity sweep minimum cross reference flags previous spare =
    record {
      state = state;
      token = token;
      side = side;
      shares = record { liable = total liable; executed = total executed; matched = total matched };
      flags = flags;
      details = record {
        kept = record { stock = stock; firm = firm; capacity = capacity; cross = cross };
        terms = record { price = price; time = time; display = display; sweep = sweep; minimum = removed minimum };
        reference = reference;
        previous = previous;
        spare = spare;
      };
    }

-- the order that 80 bytes hold
unfoldable pub order_of : List ℕ → Order
order_of s = reading record_layout s order_fields

-- the 80 bytes of an order
unfoldable pub order_bytes : Order → List ℕ
order_bytes o =
    let sh = o.shares in
    let k = o.details.kept in
    let t = o.details.terms in
    laid record_layout
    o.state o.token o.side sh.liable.0 sh.executed.0 sh.matched.0 k.stock t.price t.time
    k.firm t.display k.capacity t.sweep t.minimum.0 k.cross o.details.reference o.flags
    o.details.previous o.details.spare

-- ---- what the rules ask of an order

-- what stands for a token that no record has: its state is no letter
unfoldable pub no_order : Order
no_order = order_of (zeros record_size)

unfoldable pub is_live : Order → Bool
is_live o = eqb o.state live

-- what the table counts of it as open: nothing, unless it is live (Ask 6)
unfoldable pub open_of : Order → Removed
open_of o = pick (is_live o) (open_shares o.shares) (removed 0)

unfoldable pub is_used : Order → Bool
is_used o = not (eqb o.state 0)

-- it is late, it is pending, or a Cancel Reject was sent for it
infix 50 ◌is◌
unfoldable pub ◌is◌ : Order → Flag → Bool
o is flag = has_flag o.flags flag

-- ---- what the rules change of an order: what is not named stays

-- the order with these counts: an order whose open reaches 0 is dead
unfoldable pub dead_if_spent : Order → Counts → Order
dead_if_spent o s =
    record {
      state = pick (eqb (open_shares s).0 0) dead o.state;
      token = o.token;
      side = o.side;
      shares = s;
      flags = o.flags;
      details = o.details;
    }

unfoldable pub with_side : Order → ℕ → Order
with_side o side =
    record { state = o.state; token = o.token; side = side; shares = o.shares; flags = o.flags; details = o.details }

unfoldable pub with_flags : Order → ℕ → Order
with_flags o flags =
    record { state = o.state; token = o.token; side = o.side; shares = o.shares; flags = flags; details = o.details }

unfoldable pub with_details : Order → Details → Order
with_details o details =
    record { state = o.state; token = o.token; side = o.side; shares = o.shares; flags = o.flags; details = details }

unfoldable pub marked : Order → Flag → Order
marked o flag = with_flags o (set_flag o.flags flag)

unfoldable pub cleared : Order → Flag → Order
cleared o flag = with_flags o (clear_flag o.flags flag)

-- all that is open is cut off: a dead record's liable is executed + self-matched
unfoldable pub killed : Order → Order
killed o = dead_if_spent o (cut o.shares (open_shares o.shares))

-- a rejected token: R, the token, and zeros
unfoldable pub rejected_order : List ℕ → Order
rejected_order token =
    record { state = rejected_token; token = token; side = 0; shares = new_counts (total 0); flags = 0; details = no_order.details }
