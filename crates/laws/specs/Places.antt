-- The place that a step tells (Ask 1): with 3 the smallest offset of a bad byte of the entry, and 0 with every other answer.
use Rattle.std.specs.Prelude.{ℕ, ◌≡◌, true, List}
use Rattle.answers.specs.Answer.{BadField}
use Rattle.wire.specs.Legal.{FirstBad, ◌exactly_when◌, PlaceWith3}
use Rattle.tape.specs.Kinds.{kind_of, layout_of}
use Rattle.tape.specs.Entries.{well_formed}
use Rattle.host.specs.Step.{World, step}
use Rattle.laws.specs.Ready.{Ready}

-- nothing is wrong with what was lent, and the entry has its kind's length
abbrev pub Looked : World → List ℕ → Type 0
Looked w s = Ready w × (well_formed s ≡ true)

-- of any table, ring, marks, list and entry
pub record TellsPlace (w : World) (s : List ℕ) : Type 0 where
  pub bad-field : (at : ℕ) → ((step w s).answer ≡ BadField at) exactly_when (Looked w s × FirstBad (layout_of (kind_of s)).fields s at)
  pub place-0 : PlaceWith3 (step w s).answer
