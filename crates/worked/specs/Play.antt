-- A host to play on, and how a list of entries is played on it.
use Rattle.std.specs.Prelude.{ℕ, List, [], ◌∷◌, ◌++◌, map, length, take, replicate}
use Prim.Native.String.{String}
use Rattle.octets.specs.Choice.{text}
use Rattle.octets.specs.Bytes.{zeros}
use Rattle.answers.specs.Answer.{answer_number}
use Rattle.wire.specs.Shares.{total}
use Rattle.header.specs.Limits.{most_firms, firm_size}
use Rattle.header.specs.declared.settings.Firm.{Firm}
use Rattle.header.specs.declared.settings.Settings.{Settings}
use Rattle.table.specs.Table.{table_size}
use Rattle.table.specs.Fresh.{fresh_table}
use Rattle.outbox.specs.Outbox.{held, release_marks}
use Rattle.host.specs.Step.{World, world, step}

-- ---- a host

abbrev pub coded : List ℕ → Firm
coded code = record { code = code }

-- the first `count` of these firms are listed; the places behind them hold zeros
unfoldable pub settings : ℕ → List String → ℕ → Settings
settings threshold firms count =
    record {
      threshold = total threshold;
      firms = take most_firms (map (λ (f : String). coded (text f)) firms ++ replicate most_firms (coded (zeros firm_size)));
      count = count;
    }

-- one stock, ABC, which trades (Ask 2)
unfoldable pub one_stock : List ℕ
one_stock = text "ABC     T"

-- fresh, with n records, a ring of r bytes and that stock
unfoldable pub host : Settings → ℕ → ℕ → World
host s n r = world (fresh_table (zeros (table_size n)) s) (zeros r) (record { at = 0; held = 0 }) one_stock

-- the same with another list
infixl 68 ◌lending◌
unfoldable pub ◌lending◌ : World → List ℕ → World
w lending stocks = world w.books.table w.ring w.marks stocks

-- the paper's settings: threshold 1,000,000, firm ABCD
unfoldable pub practice : Settings
practice = settings 1_000_000 ("ABCD" ∷ []) 1

-- three records and the shortest ring, on which the cases are played
unfoldable pub small : World
small = host practice 3 80

-- ---- playing, the ring emptied after each entry

pub record Played : Type 0 where
  pub answers : List ℕ
  pub sent : List (List ℕ)
  pub world : World

unfoldable pub emptied : World → World
emptied w =
    record { books = w.books; ring = w.ring; marks = release_marks (length w.ring) w.marks w.marks.held }

unfoldable pub play : World → List (List ℕ) → Played
play w [] = record { answers = []; sent = []; world = w }
play w (e ∷ es) =
    let r = step w e in
    let rest = play (emptied r.world) es in
    record {
      answers = answer_number r.answer ∷ rest.answers;
      sent = held r.world.ring r.world.marks ∷ rest.sent;
      world = rest.world;
    }

-- the table that these entries leave on the small host
unfoldable pub table_after : List (List ℕ) → List ℕ
table_after es = (play small es).world.books.table
