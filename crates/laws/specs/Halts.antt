-- What a step does to the list of stocks (Ask 2): of any table, ring, marks, list and entry.
use Rattle.std.specs.Prelude.{ℕ, ◌≡◌, true, List, [], ◌≢◌, get_or}
use Rattle.answers.specs.Answer.{Done}
use Rattle.stocks.specs.Standing.{is_listed}
use Rattle.stocks.specs.Stocks.{list_good, place_of, state_place, standing_in, with_state}
use Rattle.tape.specs.Kinds.{kind_of}
use Rattle.tape.specs.declared.kinds.Kind.TheVariants.{SetsStock}
use Rattle.tape.specs.Entries.{stamp_of, stock_state_of}
use Rattle.notices.specs.Notices.{message}
use Rattle.rules.specs.Plan.{plan_of}
use Rattle.host.specs.Step.{World, comes_to, step}

-- what a done h leaves: its symbol is listed, that one byte of the list is set, and nothing is sent
pub record Halts (w : World) (s : List ℕ) : Type 0 where
  pub listed : is_listed (standing_in w.books.stocks (stock_state_of s).symbol) ≡ true
  pub set : (step w s).world.books.stocks ≡ with_state w.books.stocks (stock_state_of s).symbol (stock_state_of s).state
  pub one_byte : (k : ℕ) → k ≢ state_place (place_of w.books.stocks (stock_state_of s).symbol)
      → get_or (step w s).world.books.stocks k 0 ≡ get_or w.books.stocks k 0
  pub sends-nothing : message (stamp_of s) (plan_of (comes_to w.books s)) ≡ []

pub record KeepsStocks (w : World) (s : List ℕ) : Type 0 where
  -- no other entry changes a byte of it, and only a done h does
  pub others : kind_of s ≢ SetsStock → (step w s).world.books.stocks ≡ w.books.stocks
  pub only-done : (step w s).answer ≢ Done → (step w s).world.books.stocks ≡ w.books.stocks
  pub done : kind_of s ≡ SetsStock → (step w s).answer ≡ Done → Halts w s
  -- a right list stays right
  pub good : list_good w.books.stocks ≡ true → list_good (step w s).world.books.stocks ≡ true
