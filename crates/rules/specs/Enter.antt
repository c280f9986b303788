-- O: an order is entered (What each entry does, O).
use Rattle.std.specs.Prelude.{ℕ, min, Bool, not, ◌&&◌, ◌||◌, List, eqb, Result, Ok, Err}
use Rattle.octets.specs.Choice.{pick, first_of◌, ◌⇒◌⨾◌, among}
use Rattle.octets.specs.Bytes.{zeros}
use Rattle.wire.specs.Letters.{live, closed, firm_not_listed, all_rejected, invalid_stock, stock_halted, not_in_this_cross, invalid_display, invalid_price, above_threshold, invalid_minimum, displays, crosses, capacities, imbalance_only, no_cross, other_capacity}
use Rattle.wire.specs.Limits.{token_size}
use Rattle.wire.specs.Text.{shaped}
use Rattle.wire.specs.Price.{good_price}
use Rattle.wire.specs.Shares.{total, removed, ◌exceeds◌, ◌is_below◌, ◌equals◌}
use Rattle.orders.specs.Counts.{new_counts, open_shares}
use Rattle.orders.specs.Order.{is_used}
use Rattle.header.specs.Header.{is_open_day}
use Rattle.header.specs.Firms.{meant_firm, is_listed, firm_blocked}
use Rattle.stocks.specs.Standing.{is_listed as is_listed_stock, is_halted}
use Rattle.rules.specs.Limits.{longest_time, immediate}
use Rattle.rules.specs.Plan.{ignored, accepting, rejecting}
use Rattle.rules.specs.Types.{Decision, Total, Removed, Price, Kept, Terms, Order, Header, Standing, EnterOrder}

-- ---- faults that O and U share

-- D: display not among A Y N P I M W, or I with cross N
unfoldable pub bad_display : ℕ → ℕ → Bool
bad_display display cross = not (among displays display) || (eqb display imbalance_only && eqb cross no_cross)

-- X: price neither 1 to 1,999,999,900 nor 2,147,483,647 with cross O or C
unfoldable pub bad_price : ℕ → ℕ → Bool
bad_price price cross = not (good_price price cross)

-- Z: shares 0 or not below threshold
unfoldable pub bad_shares : Header → Total → Bool
bad_shares h shares = (shares equals total 0) || not (shares is_below h.threshold)

-- N: minimum above 0 with time in force not 0, or above shares (those that are open)
unfoldable pub bad_minimum : Removed → ℕ → Removed → Bool
bad_minimum minimum time shares = ((minimum exceeds removed 0) && not (eqb time immediate)) || minimum exceeds shares

-- ---- the fault of an O: the letter of the first that applies; and if none does, its price

-- the last three, those above; of an order as entered all shares are open
unfoldable pub fault_of_numbers : Header → EnterOrder → Result Price ℕ
fault_of_numbers h e =
    first_of
    bad_price e.price e.cross ⇒ Err invalid_price  -- X
    ⨾ bad_shares h e.shares ⇒ Err above_threshold  -- Z
    ⨾ bad_minimum e.minimum e.time (open_shares (new_counts e.shares)) ⇒ Err invalid_minimum  -- N
    ⨾ Ok (record { 0 = e.price })

-- S: stock not 1 to 8 capitals then spaces, or not listed (Ask 2)
unfoldable pub bad_stock : List ℕ → Standing → Bool
bad_stock symbol stock = not (shaped symbol && is_listed_stock stock)

-- day not open; firm not listed, and then whether it is blocked (Ask 5); stock, and then whether it is halted (Ask 2); cross not N O C; display; and then those
unfoldable pub enter_fault : Header → List ℕ → Standing → EnterOrder → Result Price ℕ
enter_fault h firm stock e =
    first_of
    not (is_open_day h) ⇒ Err closed  -- C
    ⨾ not (is_listed h firm) ⇒ Err firm_not_listed  -- L
    ⨾ firm_blocked h firm ⇒ Err all_rejected  -- a
    ⨾ bad_stock e.stock stock ⇒ Err invalid_stock  -- S
    ⨾ is_halted stock ⇒ Err stock_halted  -- H
    ⨾ not (among crosses e.cross) ⇒ Err not_in_this_cross  -- R
    ⨾ bad_display e.display e.cross ⇒ Err invalid_display  -- D
    ⨾ fault_of_numbers h e

-- ---- the order as accepted

-- what O and U bring anew: echoed, but time in force above 99,999 becomes 99,999
unfoldable pub accepted_terms : Price → ℕ → ℕ → ℕ → Removed → Terms
accepted_terms price time display sweep minimum =
    record { price = price.0; time = min time longest_time; display = display; sweep = sweep; minimum = minimum }

-- capacity outside A P R becomes O
unfoldable pub entered_kept : List ℕ → EnterOrder → Kept
entered_kept firm e =
    record {
      stock = e.stock;
      firm = firm;
      capacity = pick (among capacities e.capacity) e.capacity other_capacity;
      cross = e.cross;
    }

-- live, fields echoed and so stored; it takes the next reference
unfoldable pub entered_order : Header → List ℕ → EnterOrder → Price → Order
entered_order h firm e price =
    record {
      state = live;
      token = e.token;
      side = e.side;
      shares = new_counts e.shares;
      flags = 0;
      details = record {
        kept = entered_kept firm e;
        terms = accepted_terms price e.time e.display e.sweep e.minimum;
        reference = h.reference;
        previous = zeros token_size;
        spare = 0;
      };
    }

-- the letter is sent in a Rejected Message and the token stored as R; if there is none, Accepted
unfoldable pub enter_outcome : Header → List ℕ → EnterOrder → Result Price ℕ → Decision
enter_outcome h firm e (Err reason) = rejecting e.token reason
enter_outcome h firm e (Ok price) = accepting (entered_order h firm e price)

-- Used token: 1. A blank firm means, and so becomes, the default. (`found` is what the entry's token means so far, `stock` how its stock stands.)
unfoldable pub enter_rule : Header → Order → Standing → EnterOrder → Decision
enter_rule h found stock e =
    let firm = meant_firm h e.firm in
    first_of
    is_used found ⇒ ignored
    ⨾ enter_outcome h firm e (enter_fault h firm stock e)
