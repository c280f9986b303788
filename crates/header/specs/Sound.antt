-- When the header holds (Table and outbox, Header and Sound).
use Rattle.std.specs.Prelude.{ℕ, ◌^◌, Bool, List, [], ◌∷◌, leb, ltb}
use Rattle.octets.specs.Choice.{every}
use Rattle.wire.specs.Layout.{no_bad_place}
use Rattle.header.specs.Header.{header_layout, header_of}
use Rattle.header.specs.Firms.{firms_shaped, rest_blank}

-- the header holds, over n records
unfoldable pub header_sound : List ℕ → ℕ → Bool
header_sound s n =
    let h = header_of s in
    every
    (no_bad_place header_layout s
    ∷ leb h.used n
    ∷ firms_shaped h.firms h.count
    ∷ rest_blank h.firms h.count
    ∷ ltb h.blocked (2 ^ h.count)  -- no bit past the firm count (Ask 5)
    ∷ [])
