-- The bytes of the header's value as the two runs in which they are written. This is about inner functions: that the runs one behind the other
-- are the header is proved.
use Rattle.std.specs.Prelude.{ℕ, List, take, drop}
use Rattle.wire.specs.Layout.{Field, Values, ◌&◌, spell_fields}
use Rattle.header.specs.Limits.{table_form}
use Rattle.header.specs.Header.{Header, header_layout}

-- bytes 0 to 15: the day, and what has happened in it
abbrev pub moment_fields : List Field
moment_fields = take 6 header_layout

abbrev pub moment_values : Header → Values moment_fields
moment_values h = h.day & h.count & table_form & h.blocked & h.used & h.last & tt

unfoldable pub moments : Header → List ℕ
moments h = spell_fields moment_fields (moment_values h)

-- bytes 16 to 59
abbrev pub standing_fields : List Field
standing_fields = drop 6 header_layout

abbrev pub standing_values : Header → Values standing_fields
standing_values h = h.reference & h.threshold.0 & h.firms & tt

unfoldable pub standing : Header → List ℕ
standing h = spell_fields standing_fields (standing_values h)
