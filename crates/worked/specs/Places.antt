-- The place that an answer 3 tells (Ask 1), row by row: an entry, the bytes of it that are spoiled, and the place. A judged field of each kind,
-- two of them, and answers that tell no place.
use Rattle.std.specs.Prelude.{ℕ, Bool, ◌&&◌, List, [], ◌∷◌, eqb, set, take}
use Rattle.answers.specs.Answer.{answer_number, answer_place}
use Rattle.host.specs.Step.{step}
use Rattle.worked.specs.Play.{small}
use Rattle.worked.specs.Entries.{start, good, replace, cancel, modify, execute, self_match, book_cancel, prioritise, late, cross_done, halt, stamped_at}

-- the byte at a place is one that no field may begin with, and no token hold
infixl 69 ◌spoiled_at◌
unfoldable pub ◌spoiled_at◌ : List ℕ → ℕ → List ℕ
e spoiled_at at = set e at 255

-- offered to the small host, it is answered so and tells this place
infix 68 ◌answers◌at◌
unfoldable pub ◌answers◌at◌ : List ℕ → ℕ → ℕ → Bool
e answers answer at place = let a = (step small e).answer in eqb (answer_number a) answer && eqb (answer_place a) place

unfoldable pub clients_places : List Bool
clients_places =
    good "A" spoiled_at 1 answers 3 at 1  -- O: stamp
    ∷ good "A" spoiled_at 3 answers 3 at 1  -- told from its first byte
    ∷ good "A" spoiled_at 14 answers 3 at 14  -- token, a character in the middle
    ∷ good "A" spoiled_at 23 answers 3 at 23  -- side
    ∷ good "A" spoiled_at 50 answers 3 at 50  -- sweep
    ∷ replace "A" "B" 500 spoiled_at 1 answers 3 at 1  -- U: stamp
    ∷ replace "A" "B" 500 spoiled_at 9 answers 3 at 9  -- existing token
    ∷ replace "A" "B" 500 spoiled_at 36 answers 3 at 36  -- replacement token, its last character
    ∷ replace "A" "B" 500 spoiled_at 50 answers 3 at 50  -- sweep
    ∷ cancel "A" 500 spoiled_at 1 answers 3 at 1  -- X: stamp
    ∷ cancel "A" 500 spoiled_at 22 answers 3 at 22  -- token
    ∷ modify "A" "B" 500 spoiled_at 1 answers 3 at 1  -- M: stamp
    ∷ modify "A" "B" 500 spoiled_at 10 answers 3 at 10  -- token
    ∷ modify "A" "B" 500 spoiled_at 23 answers 3 at 23  -- side
    ∷ []

unfoldable pub engines_places : List Bool
engines_places =
    execute "A" 100 spoiled_at 1 answers 3 at 1  -- e: stamp
    ∷ execute "A" 100 spoiled_at 11 answers 3 at 11  -- token
    ∷ execute "A" 100 spoiled_at 31 answers 3 at 31  -- flag
    ∷ book_cancel "A" 100 "T" spoiled_at 1 answers 3 at 1  -- c: stamp
    ∷ book_cancel "A" 100 "T" spoiled_at 12 answers 3 at 12  -- token
    ∷ book_cancel "A" 100 "T" spoiled_at 27 answers 3 at 27  -- reason
    ∷ self_match "A" 100 spoiled_at 1 answers 3 at 1  -- q: stamp
    ∷ self_match "A" 100 spoiled_at 13 answers 3 at 13  -- token
    ∷ self_match "A" 100 spoiled_at 35 answers 3 at 35  -- flag
    ∷ prioritise "A" 10_000 spoiled_at 1 answers 3 at 1  -- p: stamp
    ∷ prioritise "A" 10_000 spoiled_at 15 answers 3 at 15  -- token
    ∷ prioritise "A" 0 answers 3 at 23  -- price
    ∷ late "A" spoiled_at 1 answers 3 at 1  -- l: stamp
    ∷ late "A" spoiled_at 16 answers 3 at 16  -- token
    ∷ cross_done "A" spoiled_at 1 answers 3 at 1  -- f: stamp
    ∷ cross_done "A" spoiled_at 17 answers 3 at 17  -- token
    ∷ start spoiled_at 1 answers 3 at 1  -- s: stamp
    ∷ start spoiled_at 9 answers 3 at 9  -- event
    ∷ halt "ABC     " "H" spoiled_at 1 answers 3 at 1  -- h: stamp
    ∷ halt "ABC     " "H" spoiled_at 17 answers 3 at 17  -- state
    ∷ halt "ABC     " "h" answers 3 at 17  -- a small letter
    ∷ halt "ABC     " "H" spoiled_at 9 answers 5 at 0  -- a symbol is not judged
    ∷ []

-- the smallest offset of several, and the answers that tell none
unfoldable pub several_places : List Bool
several_places =
    good "A" spoiled_at 20 spoiled_at 12 answers 3 at 12  -- two characters
    ∷ good "A" spoiled_at 50 spoiled_at 23 answers 3 at 23  -- two fields
    ∷ modify "A" "B" 500 spoiled_at 23 spoiled_at 1 answers 3 at 1  -- a stamp and a letter
    ∷ replace "A" "B" 500 spoiled_at 30 spoiled_at 15 answers 3 at 15  -- both tokens
    ∷ take 55 (good "A" spoiled_at 23) answers 2 at 0  -- a byte short
    ∷ stamped_at 86_400_000_000_000 start answers 3 at 1  -- the first stamp past the day
    ∷ start answers 0 at 0
    ∷ execute "A" 100 answers 5 at 0
    ∷ []
