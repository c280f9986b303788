-- What a Cancel does to the orders (Ask 4): of any table, ring, marks, list and entry.
use Rattle.std.specs.Prelude.{ℕ, ◌≤◌, ◌<◌, ◌≡◌, true, false, List}
use Rattle.answers.specs.Answer.{Done, Ignored}
use Rattle.wire.specs.Shares.{◌grown_by◌}
use Rattle.wire.specs.declared.shares.Total.{Total}
use Rattle.orders.specs.Counts.{open_shares}
use Rattle.orders.specs.Order.{is_live, ◌is◌}
use Rattle.orders.specs.declared.counts.Counts.{Counts}
use Rattle.orders.specs.declared.order.Order.{Order}
use Rattle.orders.specs.declared.flags.Flag.TheVariants.{Late}
use Rattle.table.specs.Table.{header, order_at, order_from}
use Rattle.tape.specs.Entries.{entry_answer, stamp_of, cancel_of}
use Rattle.host.specs.Step.{World, named_place, step}
use Rattle.laws.specs.Ready.{Ready}

-- executions plus open: no more will ever be executed under the order's token
unfoldable pub executions_plus_open : Counts → Total
executions_plus_open s = s.executed grown_by open_shares s

-- nothing is wrong with what was lent, and the entry is legal and not too early
pub record ReachesRules (w : World) (s : List ℕ) : Type 0 where
  pub ready : Ready w
  pub legal : entry_answer s ≡ Done
  pub in-time : (header w.books.table).last ≤ stamp_of s

-- a used record before and after the step
abbrev pub before : World → ℕ → Order
before w i = order_at w.books.table i

abbrev pub after : World → List ℕ → ℕ → Order
after w s i = order_at (step w s).world.books.table i

-- the record that the Cancel names
abbrev pub its_place : World → List ℕ → ℕ
its_place w s = named_place w.books.table s

-- the Cancel is done and leaves the order live. (Of a late order nothing is canceled: what is done there is a Cancel Pending or a Cancel
-- Reject.)
pub record LeavesLive (w : World) (s : List ℕ) : Type 0 where
  pub done : (step w s).answer ≡ Done
  pub not_late : (before w (its_place w s) is Late) ≡ false
  pub alive : is_live (after w s (its_place w s)) ≡ true

pub record CutsDown (w : World) (s : List ℕ) : Type 0 where
  -- a cancel never raises open or liable, of whatever order
  pub open-not-raised : (i : ℕ) → i < (header w.books.table).used → (open_shares (after w s i).shares).0 ≤ (open_shares (before w i).shares).0
  pub liable-not-raised : (i : ℕ) → i < (header w.books.table).used → (after w s i).shares.liable.0 ≤ (before w i).shares.liable.0
  -- after a done cancel that leaves the order live, executions plus open are the intended size, and so at most that
  pub limited : LeavesLive w s → executions_plus_open (after w s (its_place w s)).shares ≡ (cancel_of s).size
  -- a size at or above executed + open: ignored
  pub no-smaller : ReachesRules w s → (executions_plus_open (order_from w.books.table (its_place w s)).shares).0 ≤ (cancel_of s).size.0 → (step w s).answer ≡ Ignored
