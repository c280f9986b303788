-- U: a live order is replaced by another under a new token (What each entry does, U).
use Rattle.std.specs.Prelude.{Bool, not, ◌||◌}
use Rattle.octets.specs.Choice.{first_of◌, ◌⇒◌⨾◌}
use Rattle.wire.specs.Letters.{live, closed, stock_halted, not_in_this_cross, user_requested}
use Rattle.wire.specs.Shares.{◌less◌, ◌is_below◌}
use Rattle.orders.specs.Counts.{gone, open_shares, with_liable}
use Rattle.orders.specs.Order.{is_live, is_used, ◌is◌, killed}
use Rattle.orders.specs.declared.flags.Flag.TheVariants.{Late}
use Rattle.header.specs.Header.{is_open_day}
use Rattle.stocks.specs.Standing.{is_halted}
use Rattle.rules.specs.Plan.{ignored, changing, replacing, rejecting}
use Rattle.rules.specs.Enter.{bad_shares, bad_price, bad_display, bad_minimum, accepted_terms}
use Rattle.rules.specs.Types.{Canceled, Decision, Price, Order, Header, Standing, ReplaceOrder}

-- shares 0, not below threshold, or not above executed + self-matched; display and minimum judged as for O, minimum against the new open
unfoldable pub bad_beside_price : Header → Order → ReplaceOrder → Bool
bad_beside_price h old e =
    bad_shares h e.shares
    || not (gone old.shares is_below e.shares)
    || bad_display e.display old.details.kept.cross
    || bad_minimum e.minimum e.time (e.shares less gone old.shares)

-- bad details: those, and the price judged as for O
unfoldable pub bad_details : Header → Order → ReplaceOrder → Bool
bad_details h old e = bad_beside_price h old e || bad_price e.price old.details.kept.cross

-- Side, stock, firm, capacity and cross come from the old record; flags zero; executed and self-matched carried over, liable = Shares
-- sent in. The rest comes from the message, as for O; the previous token is the existing one
unfoldable pub replacement_order : Header → Order → ReplaceOrder → Price → Order
replacement_order h old e price =
    record {
      state = live;
      token = e.replacement;
      side = old.side;
      flags = 0;
      shares = with_liable old.shares e.shares;
      details = record {
        kept = old.details.kept;
        terms = accepted_terms price e.time e.display e.sweep e.minimum;
        reference = h.reference;
        previous = e.existing;
        spare = 0;
      };
    }

-- Canceled U for all open; order dead
unfoldable pub canceled_whole : Order → Decision
canceled_whole old = changing (killed old) (Canceled (open_shares old.shares) user_requested)

-- Then bad details: canceled whole; replacement token stays free. Otherwise Replaced, the old record dead
unfoldable pub replace_open : Header → Order → ReplaceOrder → Decision
replace_open h old e =
    first_of
    bad_details h old e ⇒ canceled_whole old
    ⨾ replacing (killed old) (replacement_order h old e (record { 0 = e.price }))

-- Existing not live, or replacement token used: 1. Day not open: Rejected C. Late: Rejected R. Old stock halted: Rejected H (Ask 2). (`old` is
-- what the existing token means, `found` what the replacement token means so far, `stock` how the old stock stands.)
unfoldable pub replace_rule : Header → Order → Order → Standing → ReplaceOrder → Decision
replace_rule h old found stock e =
    first_of
    not (is_live old) || is_used found ⇒ ignored
    ⨾ not (is_open_day h) ⇒ rejecting e.replacement closed
    ⨾ old is Late ⇒ rejecting e.replacement not_in_this_cross
    ⨾ is_halted stock ⇒ rejecting e.replacement stock_halted
    ⨾ replace_open h old e
