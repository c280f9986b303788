-- M: the side of an order is changed, or its shares are cut (What each entry does, M).
use Rattle.std.specs.Prelude.{ℕ, Bool, not, ◌&&◌, ◌||◌, eqb}
use Rattle.octets.specs.Choice.{first_of◌, ◌⇒◌⨾◌, among}
use Rattle.wire.specs.Letters.{sell_sides}
use Rattle.wire.specs.Shares.{◌is_below◌, ◌equals◌}
use Rattle.orders.specs.Counts.{gone, with_liable}
use Rattle.orders.specs.Order.{is_live, ◌is◌, with_side, dead_if_spent}
use Rattle.orders.specs.declared.flags.Flag.TheVariants.{Late}
use Rattle.header.specs.Header.{is_open_day}
use Rattle.rules.specs.Plan.{ignored, changing}
use Rattle.rules.specs.Types.{Modified, Decision, Order, Header, ModifyOrder}

-- the same, or a change among S T E
unfoldable pub side_allowed : ℕ → ℕ → Bool
side_allowed before after = eqb before after || (among sell_sides before && among sell_sides after)

-- 1 if not live, day not open, late, side neither the same nor a change among S T E, shares not above executed + self-matched or above
-- liable, or nothing would change
unfoldable pub modify_ignored : Header → Order → ModifyOrder → Bool
modify_ignored h o e =
    not (is_live o)
    || not (is_open_day h)
    || (o is Late)
    || not (side_allowed o.side e.side)
    || not (gone o.shares is_below e.shares)
    || (o.shares.liable is_below e.shares)
    || (eqb o.side e.side && o.shares.liable equals e.shares)

-- Otherwise side and liable are stored. (An order whose open reaches 0 is dead; here something stays open.)
unfoldable pub modified_order : Order → ModifyOrder → Order
modified_order o e = dead_if_spent (with_side o e.side) (with_liable o.shares e.shares)

-- and Modified shows the new open
unfoldable pub modify_rule : Header → Order → ModifyOrder → Decision
modify_rule h o e =
    first_of
    modify_ignored h o e ⇒ ignored
    ⨾ changing (modified_order o e) Modified
