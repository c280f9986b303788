-- A case: what went before, an entry, and what should come of it; and when it holds.
use Rattle.std.specs.Prelude.{ℕ, Bool, ◌||◌, List, [], ◌∷◌, map, drop, eqb}
use Prim.Native.String.{String}
use Rattle.octets.specs.Choice.{every}
use Rattle.octets.specs.Bytes.{all_are, same}
use Rattle.answers.specs.Answer.{answer_number}
use Rattle.wire.specs.Letters.{live, dead, rejected_token}
use Rattle.orders.specs.Counts.{open_shares}
use Rattle.orders.specs.declared.order.Order.{Order}
use Rattle.table.specs.Table.{order_named, place_of, record_bytes}
use Rattle.outbox.specs.Outbox.{held}
use Rattle.host.specs.Step.{World, step}
use Rattle.worked.specs.Play.{play, small}
use Rattle.worked.specs.Entries.{token}

-- ---- what a token means afterwards

pub data Left : Type 0 where
  -- token, liable, executed, self-matched, open
  live_order : String → ℕ → ℕ → ℕ → ℕ → Left
  dead_order : String → ℕ → ℕ → ℕ → ℕ → Left
  -- no record has it
  free : String → Left
  -- it is stored as rejected
  used_up : String → Left
  -- all 80 bytes of its record are what they were before the entry
  intact : String → Left
  -- the time in force that its record holds
  time_stored : String → ℕ → Left

unfoldable pub stands : Order → ℕ → ℕ → ℕ → ℕ → ℕ → Bool
stands o state liable executed matched exposed =
    every
    (eqb o.state state
    ∷ eqb o.shares.liable.0 liable
    ∷ eqb o.shares.executed.0 executed
    ∷ eqb o.shares.matched.0 matched
    ∷ eqb (open_shares o.shares).0 exposed
    ∷ [])

unfoldable pub record_named : List ℕ → String → List ℕ
record_named t name = record_bytes t (place_of t (token name))

-- from the table before the entry and the one after it
unfoldable pub left_is : List ℕ → List ℕ → Left → Bool
left_is before t (live_order name liable executed matched exposed) = stands (order_named t (token name)) live liable executed matched exposed
left_is before t (dead_order name liable executed matched exposed) = stands (order_named t (token name)) dead liable executed matched exposed
left_is before t (free name) = stands (order_named t (token name)) 0 0 0 0 0
left_is before t (used_up name) = stands (order_named t (token name)) rejected_token 0 0 0 0
left_is before t (intact name) = same (record_named before name) (record_named t name)
left_is before t (time_stored name time) = eqb (order_named t (token name)).details.terms.time time

-- ---- cases

pub record Case : Type 0 where
  -- the host before the first entry
  pub on : World
  -- what went before: each entry is done and its message read and released
  pub before : List (List ℕ)
  -- then so many bytes are held
  pub held : ℕ
  pub entry : List ℕ
  pub answer : ℕ
  pub message : List ℕ
  pub left : List Left

-- on the small host with the paper's settings, and an empty ring
infix 70 after◌offer◌answers◌sends◌leaves◌
abbrev pub after◌offer◌answers◌sends◌leaves◌ : List (List ℕ) → List ℕ → ℕ → List ℕ → List Left → Case
after before offer entry answers answer sends message leaves left =
    record { on = small; before = before; held = 0; entry = entry; answer = answer; message = message; left = left }

-- the same on another host
abbrev pub played_on : World → Case → Case
played_on on c =
    record { on = on; before = c.before; held = c.held; entry = c.entry; answer = c.answer; message = c.message; left = c.left }

-- the same with n bytes held when the entry is offered
abbrev pub crowded : ℕ → Case → Case
crowded n c =
    record { on = c.on; before = c.before; held = n; entry = c.entry; answer = c.answer; message = c.message; left = c.left }

-- only 0 changes anything, whatever a case says of the orders
unfoldable pub unless_done : ℕ → World → World → Bool
unless_done answer w now =
    eqb answer 0
    || every
    (same w.books.table now.books.table
    ∷ same w.books.stocks now.books.stocks
    ∷ same w.ring now.ring
    ∷ eqb w.marks.at now.marks.at
    ∷ eqb w.marks.held now.marks.held
    ∷ [])

unfoldable pub holding : World → ℕ → World
holding w n = record { books = w.books; ring = w.ring; marks = record { at = w.marks.at; held = n } }

-- what went before is done, the entry is answered so, the message is this, byte by byte, and the orders are left so
unfoldable pub holds : Case → Bool
holds c =
    let played = play c.on c.before in
    let w = holding played.world c.held in
    let r = step w c.entry in
    every
    (all_are 0 played.answers
    ∷ eqb (answer_number r.answer) c.answer
    ∷ same (drop c.held (held r.world.ring r.world.marks)) c.message
    ∷ unless_done c.answer w r.world
    ∷ every (map (left_is w.books.table r.world.books.table) c.left)
    ∷ [])

unfoldable pub all_hold : List Case → Bool
all_hold cs = every (map holds cs)
