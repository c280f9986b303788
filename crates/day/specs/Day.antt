-- A day: a list of entries played with unlimited room, and the same list through an outbox, with offers, reads and releases in any order
-- (demand 3).
use Rattle.std.specs.Prelude.{ℕ, Bool, true, false, List, [], ◌∷◌, ◌++◌, length, take}
use Rattle.octets.specs.Choice.{pick}
use Rattle.answers.specs.Answer.{is_done}
use Rattle.outbox.specs.Outbox.{held, release_answer, release_marks}
use Rattle.notices.specs.Notices.{message}
use Rattle.tape.specs.Entries.{stamp_of}
use Rattle.rules.specs.Plan.{answer_of, plan_of}
use Rattle.host.specs.Step.{Books, World, Outcome, named_place, books_after, step, comes_to}
use Rattle.laws.specs.Blocked.{is_blocked}
use Rattle.answers.specs.Answer.{Answer}
use Rattle.rules.specs.Types.{Decision}
use Rattle.rules.specs.declared.plan.Plan.{Plan}
use Rattle.outbox.specs.declared.marks.Marks.{Marks}

-- ---- unlimited room: what the rules alone make of a list of entries

pub record Played : Type 0 where
  pub answers : List Answer
  pub books : Books
  pub messages : List (List ℕ)

-- an entry that sends nothing adds no message
abbrev pub telling : List ℕ → List (List ℕ) → List (List ℕ)
telling [] ms = ms
telling (b ∷ bs) ms = (b ∷ bs) ∷ ms

-- the books after a done entry
abbrev pub books_with : Books → List ℕ → Plan → Books
books_with b s p = books_after b (named_place b.table s) (stamp_of s) p

-- one entry, and then the rest
abbrev pub play_on : Books → List ℕ → Decision → Bool → (Books → Played) → Played
play_on b s d true rest =
    let r = rest (books_with b s (plan_of d)) in
    record { answers = answer_of d ∷ r.answers; books = r.books; messages = telling (message (stamp_of s) (plan_of d)) r.messages }
play_on b s d false rest =
    let r = rest b in
    record { answers = answer_of d ∷ r.answers; books = r.books; messages = r.messages }

unfoldable pub unlimited : Books → List (List ℕ) → Played
unlimited b [] = record { answers = []; books = b; messages = [] }
unlimited b (s ∷ ss) = play_on b s (comes_to b s) (is_done (answer_of (comes_to b s))) (λ b'. unlimited b' ss)

-- ---- with an outbox between

-- what the driver does next: it offers the next entry, looks at the run that is read, or releases k bytes; it may ask for more than is held
pub data Action : Type 0 where
  offer_next : Action
  look : Action
  release : ℕ → Action

-- how far a schedule came: the entries that are left, the answers but for 'blocked', the bytes released, and the world
pub record Ran : Type 0 where
  pub left : List (List ℕ)
  pub answers : List Answer
  pub released : List ℕ
  pub world : World

abbrev pub with_marks : World → Marks → World
with_marks w m = record { books = w.books; ring = w.ring; marks = m }

-- the bytes that a release of k gives up: none where it is refused
unfoldable pub given_up : World → ℕ → List ℕ
given_up w k = pick (is_done (release_answer (length w.ring) w.marks k)) (take k (held w.ring w.marks)) []

-- a blocked entry stays the next one
abbrev pub offered : List ℕ → List (List ℕ) → Outcome → Bool → (World → List (List ℕ) → Ran) → Ran
offered s ss r true rest = rest r.world (s ∷ ss)
offered s ss r false rest =
    let x = rest r.world ss in
    record { left = x.left; answers = r.answer ∷ x.answers; released = x.released; world = x.world }

unfoldable pub run : World → List (List ℕ) → List Action → Ran
run w ss [] = record { left = ss; answers = []; released = []; world = w }
run w ss (look ∷ todo) = run w ss todo
run w ss (release k ∷ todo) =
    let x = run (with_marks w (release_marks (length w.ring) w.marks k)) ss todo in
    record { left = x.left; answers = x.answers; released = given_up w k ++ x.released; world = x.world }
run w [] (offer_next ∷ todo) = run w [] todo
run w (s ∷ ss) (offer_next ∷ todo) =
    offered s ss (step w s) (is_blocked (step w s).answer) (λ w' ss'. run w' ss' todo)

-- ---- a driver that empties the outbox whenever an entry is blocked

unfoldable pub emptied : World → World
emptied w = with_marks w (release_marks (length w.ring) w.marks w.marks.held)

unfoldable pub patient : World → List (List ℕ) → List Action
patient w [] = []
patient w (s ∷ ss) =
    pick (is_blocked (step w s).answer)
    (offer_next ∷ release w.marks.held ∷ offer_next ∷ patient (step (emptied w) s).world ss)
    (offer_next ∷ patient (step w s).world ss)
