-- What a C caller's numbers and bytes stand for.
use Rattle.std.specs.Prelude.{ℕ, ◌+◌, ◌*◌, ◌/◌, ◌%◌, ◌≡◌, Bool, ◌&&◌, List, [], ◌∷◌, Result, length, leb, eqb}
use Rattle.answers.specs.declared.Refusal.{Refusal}
use Rattle.answers.specs.Answer.{answer_number, answer_place}
use Rattle.header.specs.Limits.{firm_size, most_firms}
use Rattle.header.specs.declared.settings.Firm.{Firm}
use Rattle.header.specs.declared.settings.Settings.{Settings}
use Rattle.host.specs.Step.{Outcome}
use Rattle.table.specs.Status.{number_told, tally_told}
use Rattle.table.specs.declared.status.Tally.{Tally}
use Rattle.octets.specs.Bytes.{part, zeros}
use Rattle.octets.specs.Choice.{pick}
use Rattle.outbox.specs.declared.marks.Marks.{Marks}
use Rattle.wire.specs.Shares.{total}

-- the marks that stand behind two pointers
abbrev pub marks : ℕ → ℕ → Marks
marks at held = record { at = at; held = held }

-- whole codes of 4 bytes, at most eight
unfoldable pub whole_codes : List ℕ → Bool
whole_codes row = eqb (length row % firm_size) 0 && leb (length row) (firm_size * most_firms)

-- how many codes there are; 0, which is refused with 3, where the row is no row of codes
unfoldable pub count_given : List ℕ → ℕ
count_given row = pick (whole_codes row) (length row / firm_size) 0

-- the code at place k; zeros where the row has none
unfoldable pub firm_given : List ℕ → ℕ → Firm
firm_given row k =
    record { code = pick (leb (firm_size * k + firm_size) (length row)) (part row (firm_size * k) firm_size) (zeros firm_size) }

-- a code to a place
unfoldable pub firms_given : List ℕ → List Firm
firms_given row =
    firm_given row 0 ∷ firm_given row 1 ∷ firm_given row 2 ∷ firm_given row 3 ∷ firm_given row 4 ∷ firm_given row 5 ∷ firm_given row 6
    ∷ firm_given row 7 ∷ []

unfoldable pub settings_given : ℕ → List ℕ → Settings
settings_given threshold row = record { threshold = total threshold; firms = firms_given row; count = count_given row }

-- what a step leaves a C caller with: the number of the answer and its place (Ask 1), and the table, the ring, the marks and the list (Ask 2) as
-- they are then
pub record Left (o : Outcome) (number place : ℕ) (table ring : List ℕ) (after : Marks) (stocks : List ℕ) : Type 0 where
  pub numbered : number ≡ answer_number o.answer
  pub placed : place ≡ answer_place o.answer
  pub tabled : table ≡ o.world.books.table
  pub ringed : ring ≡ o.world.ring
  pub marked : after ≡ o.world.marks
  pub listed : stocks ≡ o.world.books.stocks

-- what the status call leaves him with (Ask 6): the number of the answer, and two numbers behind pointers, zeros where it is refused
pub record Stated (told : Result Tally Refusal) (number live shares : ℕ) : Type 0 where
  pub numbered : number ≡ number_told told
  pub lives : live ≡ (tally_told told).live
  pub opens : shares ≡ (tally_told told).shares
