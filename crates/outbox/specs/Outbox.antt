-- The outbox: a ring seen from its read place (Table and outbox).
use Rattle.std.specs.Prelude.{ℕ, ◌+◌, ◌-◌, Bool, not, List, [], ◌∷◌, ◌++◌, length, take, drop, leb, ltb}
use Rattle.octets.specs.Choice.{pick, every, first_of◌, ◌⇒◌⨾◌}
use Rattle.outbox.specs.Limits.{shortest_ring, longest_ring}
use Rattle.answers.specs.Answer.{if_done}
use Rattle.answers.specs.Answer.{Answer}
use Rattle.answers.specs.Answer.{Done, WrongRing, NotHeld, Blocked}
pub use Rattle.outbox.specs.declared.marks.Marks.{Marks}

-- a ring of n bytes and its marks are right
unfoldable pub ring_good : ℕ → Marks → Bool
ring_good n m =
    every
    (leb shortest_ring n
    ∷ leb n longest_ring
    ∷ ltb m.at n
    ∷ leb m.held n
    ∷ [])

unfoldable pub free_bytes : ℕ → Marks → ℕ
free_bytes n m = n - m.held

-- the place in a ring of n, from a number that may have passed its end once
abbrev pub around : ℕ → ℕ → ℕ
around n place = pick (ltb place n) place (place - n)

-- the ring from place k on, and then around to k
unfoldable pub from : ℕ → List ℕ → List ℕ
from k ring = drop k ring ++ take k ring

-- the ring whose bytes from place k on, around, are `seen`
unfoldable pub back : ℕ → List ℕ → List ℕ
back k seen = from (length seen - k) seen

-- the held bytes, in order
unfoldable pub held : List ℕ → Marks → List ℕ
held ring m = take m.held (from m.at ring)

-- ---- put

-- longer than ring length less held count: 9
unfoldable pub put_answer : ℕ → Marks → ℕ → Answer
put_answer n m size =
    first_of
    not (ring_good n m) ⇒ WrongRing
    ⨾ ltb (free_bytes n m) size ⇒ Blocked
    ⨾ Done

-- A message goes right behind the held bytes and may wrap at the end; no other ring byte changes
unfoldable pub ring_with : List ℕ → Marks → List ℕ → List ℕ
ring_with ring m message =
    back m.at (held ring m ++ (message ++ drop (m.held + length message) (from m.at ring)))

-- the place of the message's j-th byte
abbrev pub message_place : ℕ → Marks → ℕ → ℕ
message_place n m j = around n (m.at + (m.held + j))

-- the count grows by its length
unfoldable pub marks_with : Marks → ℕ → Marks
marks_with m size = record { at = m.at; held = m.held + size }

-- ---- read

-- the longest unbroken run of held bytes from the read place; over a wrong length or wrong marks it is empty
unfoldable pub read_run : List ℕ → Marks → List ℕ
read_run ring m = pick (ring_good (length ring) m) (take m.held (drop m.at ring)) []

-- ---- release of k bytes

unfoldable pub release_answer : ℕ → Marks → ℕ → Answer
release_answer n m k =
    first_of
    not (ring_good n m) ⇒ WrongRing
    ⨾ ltb m.held k ⇒ NotHeld
    ⨾ Done

-- moves the place on by k around the ring and lowers the count by k
unfoldable pub marks_without : ℕ → Marks → ℕ → Marks
marks_without n m k = record { at = around n (m.at + k); held = m.held - k }

-- ---- Only 0 changes anything

unfoldable pub put_ring : List ℕ → Marks → List ℕ → List ℕ
put_ring ring m message = if_done (put_answer (length ring) m (length message)) (ring_with ring m message) ring

unfoldable pub put_marks : ℕ → Marks → ℕ → Marks
put_marks n m size = if_done (put_answer n m size) (marks_with m size) m

unfoldable pub release_marks : ℕ → Marks → ℕ → Marks
release_marks n m k = if_done (release_answer n m k) (marks_without n m k) m
