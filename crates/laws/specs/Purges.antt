-- What w, d and n do to the orders and to the blocked firms (Ask 5): of any table, ring, marks, list and entry.
use Rattle.std.specs.Prelude.{ℕ, suc, ◌<◌, ◌≡◌, Bool, true, List, [], ◌⊎◌, ◌≢◌}
use Rattle.octets.specs.Choice.{count_below}
use Rattle.octets.specs.Bits.{bit_of}
use Rattle.answers.specs.Answer.{Done, Ignored, UnlistedFirm, Blocked}
use Rattle.header.specs.Firms.{is_blank, is_listed, firm_place}
use Rattle.header.specs.declared.Header.{Header}
use Rattle.orders.specs.Wanted.{is_wanted}
use Rattle.table.specs.Table.{header, used_in, record_bytes, order_at}
use Rattle.tape.specs.Entries.{stamp_of, purge_of, blocking_of}
use Rattle.tape.specs.declared.entry.Purge.{Purge}
use Rattle.risk.specs.Purge.{wanted_by}
use Rattle.notices.specs.Notices.{message}
use Rattle.rules.specs.Plan.{plan_of}
use Rattle.host.specs.Step.{World, comes_to, step}
use Rattle.laws.specs.Cancels.{ReachesRules, before}

-- how many orders a w is about: those of its firm and symbol that are live and not late
unfoldable pub orders_for : Purge → List ℕ → ℕ
orders_for e t = count_below (used_in t) (λ i. is_wanted (wanted_by e) (order_at t i))

abbrev pub header_before : World → Header
header_before w = header w.books.table

abbrev pub header_after : World → List ℕ → Header
header_after w s = header (step w s).world.books.table

-- record i has every byte that it had
abbrev pub RecordStays : World → List ℕ → ℕ → Type 0
RecordStays w s i = record_bytes (step w s).world.books.table i ≡ record_bytes w.books.table i

-- of a w
pub record PurgesOne (w : World) (s : List ℕ) : Type 0 where
  -- it touches no other firm's orders, and no firm's bit
  pub other-firms : (i : ℕ) → i < (header_before w).used → (before w i).details.kept.firm ≢ (purge_of s).firm → RecordStays w s i
  pub bits : (header_after w s).blocked ≡ (header_before w).blocked
  -- done, it leaves one order fewer to cancel
  pub one_fewer : (step w s).answer ≡ Done → orders_for (purge_of s) w.books.table ≡ suc (orders_for (purge_of s) (step w s).world.books.table)
  -- while there is one it is done, or has no room; with none left it is ignored
  pub some_left : ReachesRules w s → is_listed (header_before w) (purge_of s).firm ≡ true → 0 < orders_for (purge_of s) w.books.table
      → ((step w s).answer ≡ Done) ⊎ ((step w s).answer ≡ Blocked)
  pub none_left : ReachesRules w s → is_listed (header_before w) (purge_of s).firm ≡ true → orders_for (purge_of s) w.books.table ≡ 0 → (step w s).answer ≡ Ignored
  -- blank never is listed
  pub blank-firm : ReachesRules w s → is_blank (purge_of s).firm ≡ true → (step w s).answer ≡ UnlistedFirm

-- of a d, by which its firm's bit is on, or of an n, by which it is off
pub record BlocksOne (w : World) (s : List ℕ) (on : Bool) : Type 0 where
  -- it touches no order, no other firm's bit, and sends nothing
  pub orders : (i : ℕ) → i < (header_before w).used → RecordStays w s i
  pub other-bits : (k : ℕ) → k ≢ firm_place (header_before w) (blocking_of s).firm → bit_of (header_after w s).blocked k ≡ bit_of (header_before w).blocked k
  pub sends-nothing : (step w s).answer ≡ Done → message (stamp_of s) (plan_of (comes_to w.books s)) ≡ []
  pub own-bit : (step w s).answer ≡ Done → bit_of (header_after w s).blocked (firm_place (header_before w) (blocking_of s).firm) ≡ on
  pub blank-firm : ReachesRules w s → is_blank (blocking_of s).firm ≡ true → (step w s).answer ≡ UnlistedFirm
