-- The messages that should be sent, spelled byte by byte and not through the layouts.
use Rattle.std.specs.Prelude.{ℕ, List, [], ◌++◌}
use Prim.Native.String.{String}
use Rattle.octets.specs.Choice.{text}
use Rattle.octets.specs.Bytes.{digits}
use Rattle.worked.specs.Entries.{stamp, token}

abbrev pub nothing : List ℕ
nothing = []

unfoldable pub is_system_event : String → List ℕ
is_system_event event = text "S" ++ stamp ++ text event

-- token, shares, price, time in force, cross; the first reference, and the default firm for a blank one
unfoldable pub is_accepted : String → ℕ → ℕ → ℕ → String → List ℕ
is_accepted name shares price time cross =
    text "A" ++ stamp ++ token name ++ text "B" ++ digits 4 shares ++ text "ABC     " ++ digits 4 price ++ digits 4 time ++ text "ABCD"
    ++ text "Y" ++ digits 8 1 ++ text "A" ++ text "N" ++ digits 4 0 ++ text cross ++ text "L" ++ text " "

-- of a good Enter
unfoldable pub is_accepted_good : String → List ℕ
is_accepted_good name = is_accepted name 500 10_000 0 "N"

-- existing token, replacement token, new open, time in force, minimum; the second reference
unfoldable pub is_replaced_as : String → String → ℕ → ℕ → ℕ → List ℕ
is_replaced_as existing name exposed time minimum =
    text "U" ++ stamp ++ token name ++ text "B" ++ digits 4 exposed ++ text "ABC     " ++ digits 4 20_000 ++ digits 4 time ++ text "ABCD"
    ++ text "Y" ++ digits 8 2 ++ text "A" ++ text "N" ++ digits 4 minimum ++ text "N" ++ text "L" ++ token existing ++ text " "

unfoldable pub is_replaced : String → String → ℕ → List ℕ
is_replaced existing name exposed = is_replaced_as existing name exposed 99_999 0

-- token, decrement, reason
unfoldable pub is_canceled_for : String → ℕ → String → List ℕ
is_canceled_for name decrement reason = text "C" ++ stamp ++ token name ++ digits 4 decrement ++ text reason

unfoldable pub is_canceled : String → ℕ → List ℕ
is_canceled name decrement = is_canceled_for name decrement "U"

-- token, side, new open
unfoldable pub is_modified : String → String → ℕ → List ℕ
is_modified name side exposed = text "M" ++ stamp ++ token name ++ text side ++ digits 4 exposed

unfoldable pub is_rejected : String → String → List ℕ
is_rejected name reason = text "J" ++ stamp ++ token name ++ text reason

unfoldable pub is_executed : String → ℕ → List ℕ
is_executed name shares = text "E" ++ stamp ++ token name ++ digits 4 shares ++ digits 4 10_000 ++ text "A" ++ digits 8 7

unfoldable pub is_aiq_cancelled : String → ℕ → List ℕ
is_aiq_cancelled name shares =
    text "D" ++ stamp ++ token name ++ digits 4 shares ++ text "Q" ++ digits 4 shares ++ digits 4 10_000 ++ text "A"

unfoldable pub is_cancel_pending : String → List ℕ
is_cancel_pending name = text "P" ++ stamp ++ token name

unfoldable pub is_cancel_reject : String → List ℕ
is_cancel_reject name = text "I" ++ stamp ++ token name

-- token, price, reference; displayed
unfoldable pub is_priority_update : String → ℕ → ℕ → List ℕ
is_priority_update name price reference = text "T" ++ stamp ++ token name ++ digits 4 price ++ text "Y" ++ digits 8 reference
