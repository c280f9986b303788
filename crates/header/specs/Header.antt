-- The table's header as a value, over its bytes 0 to 59 (Table and outbox, Header; Ask 6).
use Rattle.std.specs.Prelude.{ℕ, ◌*◌, Bool, List, [], ◌∷◌, eqb}
use Rattle.header.specs.Limits.{table_form, day_before, day_open, day_closed, fewest_firms, most_firms, firm_size, first_reference, end_of_references, lowest_threshold, highest_threshold}
use Rattle.wire.specs.Layout.{Field, range_at, whole_at, text_at, stamp_at, FromFields, reading, laid}
use Rattle.wire.specs.Shares.{total}
pub use Rattle.header.specs.declared.Header.{Header}

abbrev pub header_layout : List Field
header_layout =
    range_at 0 1 day_before day_closed  -- day: 0 before, 1 open, 2 closed
    ∷ range_at 1 1 fewest_firms most_firms  -- firm count
    ∷ range_at 2 1 table_form table_form  -- the table's form (Ask 6)
    ∷ whole_at 3 1  -- blocked firms, a bit each (Ask 5)
    ∷ whole_at 4 4  -- used records
    ∷ stamp_at 8  -- last stamp
    ∷ range_at 16 8 first_reference end_of_references  -- next reference
    ∷ range_at 24 4 lowest_threshold highest_threshold  -- threshold
    ∷ text_at 28 (firm_size * most_firms)  -- eight firms
    ∷ []

-- the fields, in their order, as a header; the form is the same in every one
abbrev pub header_fields : FromFields header_layout Header
header_fields day count _ blocked used last reference threshold firms =
    record {
      day = day;
      count = count;
      blocked = blocked;
      used = used;
      last = last;
      reference = reference;
      threshold = total threshold;
      firms = firms;
    }

unfoldable pub header_of : List ℕ → Header
header_of s = reading header_layout s header_fields

unfoldable pub header_bytes : Header → List ℕ
header_bytes h =
    laid header_layout
    h.day h.count table_form h.blocked h.used h.last h.reference h.threshold.0 h.firms

unfoldable pub is_open_day : Header → Bool
is_open_day h = eqb h.day day_open
