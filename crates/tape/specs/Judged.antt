-- What judging an entry answers, said without computing (Answer numbers 2 and 3, Ask 1): 2 where its kind or length is wrong, 3 where a byte
-- is bad, with the smallest offset of one, counted from the kind byte as 0; and no other answer has a place.
use Rattle.std.specs.Prelude.{ℕ, ◌≡◌, true, List}
use Rattle.answers.specs.Answer.{Malformed, BadField}
use Rattle.wire.specs.Legal.{FirstBad, ◌exactly_when◌, PlaceWith3}
use Rattle.tape.specs.Kinds.{kind_of, layout_of}
use Rattle.tape.specs.Entries.{well_formed, entry_answer}

pub record Judged (s : List ℕ) : Type 0 where
  pub malformed : (entry_answer s ≡ Malformed) exactly_when (well_formed s ≡ true → ⊥)
  pub bad-field : (at : ℕ) → (entry_answer s ≡ BadField at) exactly_when ((well_formed s ≡ true) × FirstBad (layout_of (kind_of s)).fields s at)
  pub place-0 : PlaceWith3 (entry_answer s)
