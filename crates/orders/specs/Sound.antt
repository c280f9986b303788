-- When a used record is sound, in its 80 bytes (Table and outbox, Sound).
use Rattle.std.specs.Prelude.{ℕ, ◌+◌, Bool, false, ◌&&◌, ◌||◌, Option, List, drop, leb, eqb}
use Rattle.std.specs.Bool.{then_some}
use Rattle.octets.specs.Choice.{first_of◌, ◌⇒◌⨾◌}
use Rattle.octets.specs.Bytes.{all_are}
use Rattle.wire.specs.Letters.{live, dead, rejected_token}
use Rattle.wire.specs.Limits.{token_size}
use Rattle.wire.specs.Layout.{no_bad_place}
use Rattle.wire.specs.Shares.{◌is_below◌, ◌equals◌}
use Rattle.wire.specs.declared.shares.Removed.{Removed}
use Rattle.orders.specs.Limits.{most_shares}
use Rattle.orders.specs.Counts.{Counts, gone}
use Rattle.orders.specs.Order.{Order, record_layout, order_of, open_of}

unfoldable pub liable_good : Counts → Bool
liable_good s = leb s.liable.0 most_shares

-- L with executed + self-matched below liable, or D with them equal, liable at most 999,999; or R with bytes 15-79 zero
unfoldable pub state_sound : List ℕ → Order → Bool
state_sound s o =
    first_of
    eqb o.state live ⇒ gone o.shares is_below o.shares.liable && liable_good o.shares
    ⨾ eqb o.state dead ⇒ gone o.shares equals o.shares.liable && liable_good o.shares
    ⨾ eqb o.state rejected_token ⇒ all_are 0 (drop (1 + token_size) s)
    ⨾ false

-- and a legal token
unfoldable pub record_sound : List ℕ → Bool
record_sound s = no_bad_place record_layout s && state_sound s (order_of s)

-- ---- what judging a record finds: what is open of it if it is sound, and none if it is not (Ask 6)

-- L or D beside the counts
unfoldable pub counted_sound : ℕ → Counts → Bool
counted_sound state s =
    eqb state live && (gone s is_below s.liable) && liable_good s || eqb state dead && (gone s equals s.liable) && liable_good s

unfoldable pub state_verdict : List ℕ → Option Removed
state_verdict s = then_some (state_sound s (order_of s)) (open_of (order_of s))

unfoldable pub verdict_on : List ℕ → Option Removed
verdict_on s = then_some (record_sound s) (open_of (order_of s))
