-- Every decision of the rules keeps what it should, guard by guard: first what clients send, then what the market, the book and the clock
-- tell, and what a risk officer asks for. Assumes nothing.
use Rattle.std.specs.Prelude.{Result}
use Rattle.octets.proofs.Proving.{Bool, List, ◌&&◌, ◌||◌, ◌∙◌, ◌≡◌, ◌≤◌, ap, arith, eqb, false, guard, inl, length, not, not-false, or_left, or_right, refl, true, ℕ}
use Rattle.octets.specs.Bytes.{zeros}
use Rattle.octets.specs.Choice.{pick, among}
use Rattle.octets.proofs.Laws.{length_part}
use Rattle.answers.specs.Answer.{is_done}
use Rattle.wire.specs.Letters.{closed, firm_not_listed, all_rejected, invalid_stock, stock_halted, not_in_this_cross, invalid_display, invalid_price, above_threshold, invalid_minimum, user_requested, crosses, no_cross, start_of_day, end_of_day}
use Rattle.wire.specs.Shares.{total, ◌equals◌, ◌grown_by◌}
use Rattle.wire.specs.Limits.{token_size}
use Rattle.wire.specs.declared.price.Price.{Price}
use Rattle.stocks.specs.Standing.{is_listed as is_listed_stock, is_halted}
use Rattle.header.specs.Limits.{day_before, day_open, day_closed, highest_threshold}
use Rattle.header.specs.Header.{is_open_day}
use Rattle.header.specs.Firms.{firm_at, is_blank, is_listed, firm_place, firm_blocked, meant_firm}
use Rattle.orders.specs.Counts.{gone, open_shares, new_counts, cut, with_liable, executing, self_matching}
use Rattle.orders.specs.Flags.{clear_flag}
use Rattle.orders.specs.Order.{is_live, is_used, ◌is◌, with_flags, with_side, with_details, marked, cleared}
use Rattle.orders.specs.declared.flags.Flag.TheVariants.{Late, Pending, RejectSent}
use Rattle.orders.proofs.Standing.{Live}
use Rattle.rules.specs.Plan.{allowed}
use Rattle.rules.specs.Enter.{bad_stock, bad_display, bad_price, bad_shares, bad_minimum, fault_of_numbers, enter_fault, entered_kept, entered_order, enter_outcome, enter_rule}
use Rattle.rules.specs.Replace.{bad_details, replacement_order, canceled_whole, replace_open, replace_rule}
use Rattle.rules.specs.Cancel.{new_open, cancel_ignored, decrement, canceled_order, late_cancel, cancel_rule}
use Rattle.rules.specs.Modify.{modify_ignored, modified_order, modify_rule}
use Rattle.rules.proofs.Heard.{cancel-live, cancel-smaller}
use Rattle.risk.specs.Listed.{of_listed}
use Rattle.risk.specs.Purge.{purge_rule}
use Rattle.risk.specs.Blocking.{blocking_rule}
use Rattle.market.specs.Guards.{market_answer}
use Rattle.market.specs.Taken.{shares_right, execution_rule, book_cancel_rule, self_match_rule}
use Rattle.market.specs.Priority.{prioritised_order, priority_rule}
use Rattle.market.specs.Cross.{late_rule, cross_done, cross_done_rule}
use Rattle.market.specs.Day.{system_rule}
use Rattle.market.specs.Halt.{halt_rule}
use Rattle.market.proofs.Room.{passed, room}
use Rattle.laws.specs.Cancels.{executions_plus_open}
use Rattle.laws.proofs.Types.{Answer, Ignored, NotLive, UnlistedFirm, WrongMoment, Order, Header, Decision, EnterOrder, ReplaceOrder, CancelOrder, ModifyOrder, Execution, BookCancel, SelfMatch, Priority, System, StockState, Purge, Blocking, StockStanding, Canceled, Modified, Replaced, Executed, AiqCancelled}
use Rattle.laws.proofs.Tests.{modify-live, modify-above, modify-within, fair-shares, good-shares, new-open}
use Rattle.laws.proofs.Shapes.{Shaped, Born, of_rules, Orderly, Keeps, setting-orderly, refused-keeps, beginning-keeps, blocking-keeps, changing-keeps, renumbering-keeps, accepting-keeps, rejecting-keeps, replacing-keeps, uncounted, recounted, ended, ended-dead}

-- All that the rules ask of an order: of live ones only, because no rule changes or counts with another
pub record Sane (o : Order) : Type 0 where
  pub lives : is_live o ≡ true → Live o
  pub shaped : Shaped o

-- threshold at most 1,000,000, and eight firms
pub record HeaderHolds (h : Header) : Type 0 where
  pub threshold : h.threshold.0 ≤ highest_threshold
  pub firms : length h.firms ≡ 32

-- the texts of a read O
pub record EnterShaped (e : EnterOrder) : Type 0 where
  pub token : length e.token ≡ token_size
  pub stock : length e.stock ≡ 8
  pub firm : length e.firm ≡ 4

-- ---- a new order

-- a blank firm becomes the default, which is four bytes long too
meant-length : (h : Header) (firm : List ℕ) → HeaderHolds h → length firm ≡ 4 → length (meant_firm h firm) ≡ 4
unfolding meant_firm firm_at
meant-length h firm holds four = by-blank (is_blank firm)
  where
    by-blank : (blank : Bool) → length (pick blank (firm_at h.firms 0) firm) ≡ 4
    by-blank true = length_part h.firms 0 4 (omega (arith, holds.firms))
    by-blank false = four

module _ (h : Header) (e : EnterOrder) (found : Order) (stock : StockStanding) (holds : HeaderHolds h) (texts : EnterShaped e) where
  abbrev firm : List ℕ
  firm = meant_firm h e.firm

  entered-born : bad_shares h e.shares ≡ false → Born e.token 0 (zeros token_size) (entered_order h firm e (record { 0 = e.price }))
  unfolding entered_order entered_kept new_counts gone
  entered-born fair =
      let some = fair-shares h e.shares holds.threshold fair in
      record {
        alive = (refl, omega (arith, some.0), some.1);
        shaped = record { token = texts.token; stock = texts.stock; firm = meant-length h e.firm holds texts.firm; previous = refl };
        token = refl;
        carried = refl;
        previous = refl;
      }

  abbrev WithFault : Result Price ℕ → Type 0
  WithFault f = Keeps found found e.token (enter_outcome h firm e f)

  pub enter-keeps : Keeps found found e.token (enter_rule h found stock e)
  unfolding enter_rule enter_outcome enter_fault fault_of_numbers
  enter-keeps =
      guard (Keeps found found e.token) (is_used found) (λ _. refused-keeps Ignored refl) λ free.
      guard WithFault (not (is_open_day h)) (λ _. rejecting-keeps free closed) λ _.
      guard WithFault (not (is_listed h firm)) (λ _. rejecting-keeps free firm_not_listed) λ _.
      guard WithFault (firm_blocked h firm) (λ _. rejecting-keeps free all_rejected) λ _.
      guard WithFault (bad_stock e.stock stock) (λ _. rejecting-keeps free invalid_stock) λ _.
      guard WithFault (is_halted stock) (λ _. rejecting-keeps free stock_halted) λ _.
      guard WithFault (not (among crosses e.cross)) (λ _. rejecting-keeps free not_in_this_cross) λ _.
      guard WithFault (bad_display e.display e.cross) (λ _. rejecting-keeps free invalid_display) λ _.
      guard WithFault (bad_price e.price e.cross) (λ _. rejecting-keeps free invalid_price) λ _.
      guard WithFault (bad_shares h e.shares) (λ _. rejecting-keeps free above_threshold) λ fair.
      guard WithFault (bad_minimum e.minimum e.time (open_shares (new_counts e.shares))) (λ _. rejecting-keeps free invalid_minimum) λ _.
      accepting-keeps free (entered-born fair)

-- ---- an order that is there

module _ (o found : Order) (t : List ℕ) (sane : Sane o) where
  abbrev pub Good : Decision → Type 0
  Good = Keeps o found t

  pub cancel-keeps : (e : CancelOrder) → Good (cancel_rule o e)
  unfolding cancel_rule late_cancel canceled_order open_shares with_liable gone marked with_flags with_side executions_plus_open
  cancel-keeps e =
      guard Good (cancel_ignored o e.size) (λ _. refused-keeps Ignored refl) λ heard.
      let alive = cancel-live o e.size heard in
      let lives = sane.lives alive in
      let smaller = cancel-smaller o e.size heard in
      guard Good (o is Late)
      (λ _.
      guard Good (e.size equals total 0) (λ _. changing-keeps tt (uncounted o alive lives sane.shaped _ refl)) λ _.
      guard Good (o is RejectSent) (λ _. refused-keeps Ignored refl) λ _.
      changing-keeps tt (uncounted o alive lives sane.shaped _ refl)) λ _.
      changing-keeps tt
      (recounted o alive lives sane.shaped o.side o.flags (with_liable o.shares (gone o.shares grown_by new_open o e.size))
      (Canceled (decrement o e.size) user_requested) (omega arith) (omega (arith, smaller, lives.2)) (omega arith) (omega (arith, smaller)))

  pub modify-keeps : (h : Header) (e : ModifyOrder) → Good (modify_rule h o e)
  unfolding modify_rule modified_order open_shares with_liable with_flags with_side gone executions_plus_open
  modify-keeps h e =
      guard Good (modify_ignored h o e) (λ _. refused-keeps Ignored refl) λ heard.
      let alive = modify-live h o e heard in
      let lives = sane.lives alive in
      let above = modify-above h o e heard in
      let within = modify-within h o e heard in
      changing-keeps tt
      (recounted o alive lives sane.shaped e.side o.flags (with_liable o.shares e.shares) Modified (omega arith)
      (omega (arith, lives.2)) (omega arith) (omega arith))

  -- ---- checked as the market's entries are

  abbrev Other : Answer → Type 0
  Other a = of_rules a ≡ true

  market-keeps : (moment shares : Bool) {d : Decision} → (is_live o ≡ true → Live o → shares ≡ true → Good d) → Good (allowed (market_answer o moment shares) d)
  unfolding allowed market_answer
  market-keeps moment shares keeps =
      guard Good (is_done (market_answer o moment shares))
      (λ done. let p = passed o moment shares done in keeps p.alive (sane.lives p.alive) p.fair) λ _.
      refused-keeps (market_answer o moment shares) market-own
    where
      market-own : of_rules (market_answer o moment shares) ≡ true
      market-own =
          guard Other (not (is_live o)) (λ _. refl) λ _. guard Other (not moment) (λ _. refl) λ _. guard Other (not shares) (λ _. refl) λ _. refl

  pub execution-keeps : (h : Header) (e : Execution) → Good (execution_rule h o e)
  unfolding execution_rule executing open_shares with_flags with_side gone executions_plus_open
  execution-keeps h e =
      market-keeps (is_open_day h) (shares_right o e.shares) λ alive lives fair.
      let fits = room o e.shares fair in
      changing-keeps tt
      (recounted o alive lives sane.shaped o.side o.flags (executing o.shares e.shares) (Executed e) (omega arith)
      (omega (arith, lives.2)) (omega arith) (omega arith))

  pub book-cancel-keeps : (e : BookCancel) → Good (book_cancel_rule o e)
  unfolding book_cancel_rule cut open_shares with_liable with_flags with_side gone executions_plus_open
  book-cancel-keeps e =
      market-keeps true (shares_right o e.shares) λ alive lives fair.
      let fits = room o e.shares fair in
      changing-keeps tt
      (recounted o alive lives sane.shaped o.side o.flags (cut o.shares e.shares) (Canceled e.shares e.reason) (omega arith)
      (omega (arith, lives.2)) (omega arith) (omega arith))

  pub self-match-keeps : (h : Header) (e : SelfMatch) → Good (self_match_rule h o e)
  unfolding self_match_rule self_matching open_shares with_flags with_side gone executions_plus_open
  self-match-keeps h e =
      market-keeps (is_open_day h) (shares_right o e.shares) λ alive lives fair.
      let fits = room o e.shares fair in
      changing-keeps tt
      (recounted o alive lives sane.shaped o.side o.flags (self_matching o.shares e.shares) (AiqCancelled e) (omega arith)
      (omega (arith, lives.2)) (omega arith) (omega arith))

  -- a live order with other terms and another reference
  pub priority-keeps : (h : Header) (e : Priority) → Good (priority_rule h o e)
  unfolding priority_rule prioritised_order with_details
  priority-keeps h e =
      market-keeps (is_open_day h) true λ alive lives _.
      renumbering-keeps
      (record {
        alive = alive;
        standing = inl lives;
        shaped = record { token = sane.shaped.token; stock = sane.shaped.stock; firm = sane.shaped.firm; previous = sane.shaped.previous };
        token = refl;
        previous = refl;
        executed = omega arith;
        limit = omega arith;
      })

  pub late-keeps : (h : Header) → Good (late_rule h o)
  unfolding late_rule marked
  late-keeps h =
      market-keeps (is_open_day h && not (eqb o.details.kept.cross no_cross) && not (o is Late)) true λ alive lives _.
      changing-keeps tt (uncounted o alive lives sane.shaped _ refl)

  pub cross-done-keeps : Good (cross_done_rule o)
  unfolding cross_done_rule cross_done cleared with_flags
  cross-done-keeps =
      market-keeps (o is Late) true λ alive lives _.
      guard Good (o is Pending)
      (λ _.
      changing-keeps tt
      (ended o alive lives sane.shaped (clear_flag (clear_flag o.flags Late) Pending) (Canceled (open_shares o.shares) user_requested) refl)) λ _.
      changing-keeps tt (uncounted o alive lives sane.shaped _ refl)

  -- ---- of a listed firm

  pub purge-keeps : (h : Header) (e : Purge) → Good (purge_rule h o e)
  unfolding purge_rule of_listed canceled_whole with_flags
  purge-keeps h e =
      guard Good (not (is_listed h e.firm)) (λ _. refused-keeps UnlistedFirm refl) λ _.
      guard Good (not (is_live o)) (λ _. refused-keeps Ignored refl) λ heard.
      let alive = not-false _ heard in
      changing-keeps tt (ended o alive (sane.lives alive) sane.shaped o.flags (Canceled (open_shares o.shares) user_requested) refl)

pub blocking-rule-keeps : (h : Header) (e : Blocking) (on : Bool) (o found : Order) (t : List ℕ) → Keeps o found t (blocking_rule h e on)
unfolding blocking_rule of_listed
blocking-rule-keeps h e on o found t =
    guard (Keeps o found t) (not (is_listed h e.firm)) (λ _. refused-keeps UnlistedFirm refl) λ _. blocking-keeps (firm_place h e.firm) on

pub system-keeps : (h : Header) (e : System) (o found : Order) (t : List ℕ) → Keeps o found t (system_rule h e)
unfolding system_rule
system-keeps h e o found t =
    guard (Keeps o found t) (eqb e.event start_of_day && eqb h.day day_before) (λ _. beginning-keeps day_open e.event (omega arith)) λ _.
    guard (Keeps o found t) (eqb e.event end_of_day && eqb h.day day_open) (λ _. beginning-keeps day_closed e.event (omega arith)) λ _.
    refused-keeps WrongMoment refl

-- ---- a stock

pub halt-orderly : (stock : StockStanding) (e : StockState) (o found : Order) (t : List ℕ) → Orderly o found t (halt_rule stock e)
unfolding halt_rule
halt-orderly stock e o found t =
    guard (Orderly o found t) (not (is_listed_stock stock)) (λ _. (refused-keeps NotLive refl).orderly) λ _. setting-orderly e

-- ---- an order and the one that replaces it

module _ (h : Header) (old found : Order) (stock : StockStanding) (e : ReplaceOrder) (holds : HeaderHolds h) (sane : Sane old) (long : length e.replacement ≡ token_size)
    (names : is_live old ≡ true → e.existing ≡ old.token)
  where
    replacement-born : is_live old ≡ true → bad_details h old e ≡ false
        → Born e.replacement old.shares.executed.0 old.token (replacement_order h old e (record { 0 = e.price }))
    unfolding replacement_order with_liable gone
    replacement-born alive good =
        let shaped = sane.shaped in
        record {
          alive = (refl, new-open h old e good, (fair-shares h e.shares holds.threshold (good-shares h old e good)).1);
          shaped = record { token = long; stock = shaped.stock; firm = shaped.firm; previous = ap length (names alive) ∙ shaped.token };
          token = refl;
          carried = refl;
          previous = names alive;
        }

    abbrev pub Swapped : Decision → Type 0
    Swapped = Keeps old found e.replacement

    pub replace-keeps : Swapped (replace_rule h old found stock e)
    unfolding replace_rule replace_open canceled_whole with_flags
    replace-keeps =
        guard Swapped (not (is_live old) || is_used found) (λ _. refused-keeps Ignored refl) λ heard.
        let alive = not-false _ (or_left _ _ heard) in
        let free = or_right (not (is_live old)) _ heard in
        let end = ended old alive (sane.lives alive) sane.shaped old.flags in
        guard Swapped (not (is_open_day h)) (λ _. rejecting-keeps free closed) λ _.
        guard Swapped (old is Late) (λ _. rejecting-keeps free not_in_this_cross) λ _.
        guard Swapped (is_halted stock) (λ _. rejecting-keeps free stock_halted) λ _.
        guard Swapped (bad_details h old e) (λ _. changing-keeps tt (end (Canceled (open_shares old.shares) user_requested) refl)) λ good.
        replacing-keeps free (end Replaced refl) (ended-dead old alive (sane.lives alive) sane.shaped old.flags) (replacement-born alive good)
