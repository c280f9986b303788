-- A record's 80 bytes as the four runs in which they are written, so that no piece of code writes all fields. This is about inner functions:
-- that the runs one behind the other are the record is proved.
use Rattle.std.specs.Prelude.{ℕ, List, take, drop}
use Rattle.wire.specs.Layout.{Field, Values, ◌&◌, spell_fields}
use Rattle.orders.specs.Order.{Order, Details, record_layout}

-- bytes 0 to 27: what it is, whose, and its counts
abbrev pub opening_fields : List Field
opening_fields = take 6 record_layout

abbrev pub opening_values : Order → Values opening_fields
opening_values o = o.state & o.token & o.side & o.shares.liable.0 & o.shares.executed.0 & o.shares.matched.0 & tt

unfoldable pub opening : Order → List ℕ
opening o = spell_fields opening_fields (opening_values o)

-- bytes 28 to 47: what is traded and for whom
abbrev pub traded_fields : List Field
traded_fields = take 4 (drop 6 record_layout)

abbrev pub traded_values : Details → Values traded_fields
traded_values d = d.kept.stock & d.terms.price & d.terms.time & d.kept.firm & tt

unfoldable pub traded : Details → List ℕ
traded d = spell_fields traded_fields (traded_values d)

-- bytes 48 to 55: the letters, and the minimum among them
abbrev pub letter_fields : List Field
letter_fields = take 5 (drop 10 record_layout)

abbrev pub letter_values : Details → Values letter_fields
letter_values d = d.terms.display & d.kept.capacity & d.terms.sweep & d.terms.minimum.0 & d.kept.cross & tt

unfoldable pub letters : Details → List ℕ
letters d = spell_fields letter_fields (letter_values d)

-- bytes 56 to 79: what the host adds
abbrev pub ending_fields : List Field
ending_fields = drop 15 record_layout

abbrev pub ending_values : ℕ → Details → Values ending_fields
ending_values flags d = d.reference & flags & d.previous & d.spare & tt

unfoldable pub ending : ℕ → Details → List ℕ
ending flags d = spell_fields ending_fields (ending_values flags d)
