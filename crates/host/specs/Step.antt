-- One step: from the table's, the ring's, the list's and the entry's bytes to the answer and what is there afterwards. The checks stand in the order of
-- the answer numbers, and nothing is written before the last of them (Answer numbers, in order of checking).
use Rattle.std.specs.Prelude.{ℕ, ◌+◌, ◌≡◌, Bool, true, false, not, ◌&&◌, ◌||◌, List, length, leb, ltb, eqb, Option, Some, None}
use Rattle.octets.specs.Choice.{pick, first_of◌, ◌⇒◌⨾◌}
use Rattle.answers.specs.Answer.{is_done}
use Rattle.orders.specs.Order.{is_used}
use Rattle.orders.specs.Wanted.{is_wanted}
use Rattle.header.specs.Limits.{end_of_references}
use Rattle.header.specs.Firms.{blocked_with}
use Rattle.table.specs.Table.{sound, header, records_in, used_in, place_of, order_from, order_named, first_such, store_order, store_header}
use Rattle.tape.specs.Kinds.{kind_of}
use Rattle.tape.specs.declared.kinds.Kind.{Kind}
use Rattle.tape.specs.declared.kinds.Kind.TheVariants.{Enters, Replaces, Cancels, Modifies, Executes, BookCancels, SelfMatches, Prioritises, TurnsLate, EndsCross, TellsDay, SetsStock, Purges, Disables, Enables, Unknown}
use Rattle.tape.specs.Entries.{entry_answer, names_order, stamp_of, token_of, enter_of, replace_of, cancel_of, modify_of, execution_of, book_cancel_of, self_match_of, priority_of, system_of, stock_state_of, purges, purge_of, blocking_of}
use Rattle.rules.specs.Plan.{answer_of, plan_of, refused}
use Rattle.rules.specs.Enter.{enter_rule}
use Rattle.rules.specs.Replace.{replace_rule}
use Rattle.rules.specs.Cancel.{cancel_rule}
use Rattle.rules.specs.Modify.{modify_rule}
use Rattle.risk.specs.Purge.{wanted_by, purge_rule}
use Rattle.risk.specs.Blocking.{blocking_rule}
use Rattle.market.specs.Taken.{execution_rule, book_cancel_rule, self_match_rule}
use Rattle.market.specs.Priority.{priority_rule}
use Rattle.market.specs.Cross.{late_rule, cross_done_rule}
use Rattle.market.specs.Day.{system_rule}
use Rattle.market.specs.Halt.{halt_rule}
use Rattle.notices.specs.Notices.{message}
use Rattle.stocks.specs.Stocks.{list_good, standing_in, with_state}
use Rattle.outbox.specs.Outbox.{ring_good, free_bytes, ring_with, marks_with}
use Rattle.host.specs.Types.{Answer, Done, NotSound, WrongRing, WrongStocks, Malformed, TooEarly, Full, Blocked, Marks, Header, Order, Begins, Day, Block, StockState, Plan, Decision}

-- what entries read and change: the table, and the list of stocks (Ask 2)
pub record Books : Type 0 where
  pub table : List ℕ
  pub stocks : List ℕ

-- and the outbox that their messages leave by
pub record World : Type 0 where
  pub books : Books
  pub ring : List ℕ
  pub marks : Marks

pub record Outcome : Type 0 where
  pub answer : Answer
  pub world : World

-- ---- the rules: from the header, the orders that the entry names and the entry to a decision

-- where the order stands that the entry names first: by a token, or in w as the first that is live, not late and of that firm and symbol (Ask 5);
-- behind the used records if it names none
unfoldable pub named_place : List ℕ → List ℕ → ℕ
named_place t s =
    first_of
    names_order s ⇒ place_of t (token_of s)
    ⨾ purges s ⇒ first_such t (is_wanted (wanted_by (purge_of s)))
    ⨾ used_in t

-- `named` is the order that the entry names, `found` what a Replace's own token means so far, l the list of stocks: a rule is told how its stock
-- stands there
unfoldable pub decide_by : Kind → Header → Order → Order → List ℕ → List ℕ → Decision
decide_by Enters h named found l s = enter_rule h named (standing_in l (enter_of s).stock) (enter_of s)
decide_by Replaces h named found l s = replace_rule h named found (standing_in l named.details.kept.stock) (replace_of s)
decide_by Cancels h named found l s = cancel_rule named (cancel_of s)
decide_by Modifies h named found l s = modify_rule h named (modify_of s)
decide_by Executes h named found l s = execution_rule h named (execution_of s)
decide_by BookCancels h named found l s = book_cancel_rule named (book_cancel_of s)
decide_by SelfMatches h named found l s = self_match_rule h named (self_match_of s)
decide_by Prioritises h named found l s = priority_rule h named (priority_of s)
decide_by TurnsLate h named found l s = late_rule h named
decide_by EndsCross h named found l s = cross_done_rule named
decide_by TellsDay h named found l s = system_rule h (system_of s)
decide_by SetsStock h named found l s = halt_rule (standing_in l (stock_state_of s).symbol) (stock_state_of s)
decide_by Purges h named found l s = purge_rule h named (purge_of s)
decide_by Disables h named found l s = blocking_rule h (blocking_of s) true
decide_by Enables h named found l s = blocking_rule h (blocking_of s) false
decide_by Unknown h named found l s = refused Malformed

unfoldable pub decide : Books → List ℕ → Decision
decide b s =
    let t = b.table in
    decide_by (kind_of s) (header t) (order_from t (named_place t s)) (order_named t (replace_of s).replacement) b.stocks s

-- ---- writing a plan down

abbrev pub one_if : Bool → ℕ
one_if b = pick b 1 0

-- no_order says that nothing is stored
unfoldable pub store_if : List ℕ → ℕ → Order → List ℕ
store_if t i o = pick (is_used o) (store_order t i o) t

abbrev pub day_after : ℕ → Option Begins → ℕ
day_after day None = day
day_after day (Some (Day begun)) = begun
day_after day (Some (Block place on)) = day

-- d and n set and clear the firm's bit (Ask 5)
abbrev pub blocked_after : Header → Option Begins → ℕ
blocked_after h None = h.blocked
blocked_after h (Some (Day begun)) = h.blocked
blocked_after h (Some (Block place on)) = blocked_with h place on

-- a done entry's stamp becomes the last stamp
unfoldable pub header_after : Header → ℕ → Plan → Header
header_after h stamp p =
    record {
      day = day_after h.day p.begins;
      count = h.count;
      blocked = blocked_after h p.begins;
      used = h.used + one_if (is_used p.added);
      last = stamp;
      reference = h.reference + one_if p.numbered;
      threshold = h.threshold;
      firms = h.firms;
    }

-- the named order in its own record, the added one behind the used records, and the header
unfoldable pub committed : List ℕ → ℕ → ℕ → Plan → List ℕ
committed t place stamp p =
    let changed = store_if t place p.changed in
    let added = store_if changed (header t).used p.added in
    store_header added (header_after (header t) stamp p)

-- the state of a stock, where there is one
unfoldable pub set_if : List ℕ → Option StockState → List ℕ
set_if l None = l
set_if l (Some e) = with_state l e.symbol e.state

unfoldable pub books_after : Books → ℕ → ℕ → Plan → Books
books_after b place stamp p = record { table = committed b.table place stamp p; stocks = set_if b.stocks p.stock }

unfoldable pub world_after : World → ℕ → ℕ → Plan → World
world_after w place stamp p =
    record {
      books = books_after w.books place stamp p;
      ring = ring_with w.ring w.marks (message stamp p);
      marks = marks_with w.marks (length (message stamp p));
    }

-- ---- what an entry comes to: answers 2 3 4 15 1 5 7 6 8, from the table, the list and the entry alone. The ring is not looked at, which is why
-- an entry that is blocked comes to the same when it is offered again

-- 8: a token must be stored and no record is free, or a reference is needed and the next is 10^18
unfoldable pub no_record_free : List ℕ → Plan → Bool
no_record_free t p = is_used p.added && leb (records_in t) (header t).used

unfoldable pub no_reference_left : List ℕ → Plan → Bool
no_reference_left t p = p.numbered && eqb (header t).reference end_of_references

unfoldable pub within_limits : List ℕ → Decision → Decision
within_limits t d =
    first_of
    is_done (answer_of d) && (no_record_free t (plan_of d) || no_reference_left t (plan_of d)) ⇒ refused Full
    ⨾ d

-- 2 and 3 are what judging the entry answers; 4: its stamp lies before the last
unfoldable pub comes_to : Books → List ℕ → Decision
comes_to b s =
    first_of
    not (is_done (entry_answer s)) ⇒ refused (entry_answer s)
    ⨾ ltb (stamp_of s) (header b.table).last ⇒ refused TooEarly
    ⨾ within_limits b.table (decide b s)

-- ---- the step

-- only 0 changes anything
abbrev pub unchanged : World → Answer → Outcome
unchanged w a = record { answer = a; world = w }

-- 9: the message is longer than ring length less held count
unfoldable pub no_room : World → ℕ → Plan → Bool
no_room w stamp p = ltb (free_bytes (length w.ring) w.marks) (length (message stamp p))

-- the one place where room is asked for, and the one place where anything is written
unfoldable pub carried_out : World → ℕ → ℕ → Plan → Outcome
carried_out w place stamp p =
    first_of
    no_room w stamp p ⇒ unchanged w Blocked
    ⨾ record { answer = Done; world = world_after w place stamp p }

unfoldable pub settle : World → ℕ → ℕ → Decision → Outcome
settle w place stamp d =
    first_of
    is_done (answer_of d) ⇒ carried_out w place stamp (plan_of d)
    ⨾ unchanged w (answer_of d)

-- what a step does once table, ring and list are judged
unfoldable pub offer : World → List ℕ → Outcome
offer w s = settle w (named_place w.books.table s) (stamp_of s) (comes_to w.books s)

unfoldable pub step : World → List ℕ → Outcome
step w s =
    first_of
    not (sound w.books.table) ⇒ unchanged w NotSound
    ⨾ not (ring_good (length w.ring) w.marks) ⇒ unchanged w WrongRing
    ⨾ not (list_good w.books.stocks) ⇒ unchanged w WrongStocks
    ⨾ offer w s

-- ---- what the call promises

abbrev pub books : List ℕ → List ℕ → Books
books t l = record { table = t; stocks = l }

abbrev pub world : List ℕ → List ℕ → Marks → List ℕ → World
world t r m l = record { books = books t l; ring = r; marks = m }

-- the answer and the marks that come back, and the table, the ring and the list as they are then
pub record Leaves (o : Outcome) (answer : Answer) (marks : Marks) (table ring stocks : List ℕ) : Type 0 where
  pub answered : answer ≡ o.answer
  pub marked : marks ≡ o.world.marks
  pub tabled : table ≡ o.world.books.table
  pub ringed : ring ≡ o.world.ring
  pub listed : stocks ≡ o.world.books.stocks
