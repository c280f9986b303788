-- What is promised of a message's struct beside its functions' own contracts: that reading and writing are each other's inverses, and that the
-- answers are given exactly when the paper says.
use Rattle.std.specs.Prelude.{ℕ, ◌≤◌, ◌≡◌, List, ◌++◌, length, take, drop, get_or}
use Rattle.answers.specs.Answer.{Done, Malformed, BadField}
use Rattle.wire.specs.Layout.{Layout, Values, Fits}
use Rattle.wire.specs.Legal.{Bytes, Legal, FirstBad, ◌exactly_when◌, PlaceWith3}
use Rattle.wire.specs.Messages.{read_answer, write_answer, buffer_after}

-- of a struct X with its layout: what it is of bytes, its bytes, and its values
pub record Faithful {X : Type 0} (l : Layout) (of : List ℕ → X) (bytes : X → List ℕ) (values : X → Values l.fields) : Type 0 where
  -- a legal message, read and written to a buffer with room: the same bytes in front, and the others stay
  pub same_bytes : (s : List ℕ) → Bytes s → read_answer l s ≡ Done → bytes (of s) ≡ s
  pub same-buffer : (s : List ℕ) → Bytes s → read_answer l s ≡ Done → (buffer : List ℕ) → l.size ≤ length buffer
      → (write_answer l (bytes (of s)) buffer ≡ Done) × (buffer_after l (bytes (of s)) buffer ≡ s ++ drop l.size buffer)
  -- fields, written and read again from the buffer's front: legal, and the same fields
  pub same-fields : (m : X) → Fits l.fields (values m) → (buffer : List ℕ) → write_answer l (bytes m) buffer ≡ Done
      → (read_answer l (take l.size (buffer_after l (bytes m) buffer)) ≡ Done) × (of (take l.size (buffer_after l (bytes m) buffer)) ≡ m)
  -- the reader's answers
  pub done : (s : List ℕ) → (read_answer l s ≡ Done) exactly_when Legal l s
  pub malformed : (s : List ℕ) → (read_answer l s ≡ Malformed) exactly_when ((length s ≡ l.size) × (get_or s 0 0 ≡ l.code) → ⊥)
  -- Ask 1: the place told is the smallest offset of a bad byte, and it is 0 exactly when the answer isn't 3
  pub bad-field : (s : List ℕ) (at : ℕ)
      → (read_answer l s ≡ BadField at) exactly_when (((length s ≡ l.size) × (get_or s 0 0 ≡ l.code)) × FirstBad l.fields s at)
  pub place-0 : (s : List ℕ) → PlaceWith3 (read_answer l s)
  -- the writer's, of the bytes that it is to write
  pub write-bad-field : (m : X) (buffer : List ℕ) (at : ℕ) → (write_answer l (bytes m) buffer ≡ BadField at) exactly_when FirstBad l.fields (bytes m) at
  pub write-place-0 : (m : X) (buffer : List ℕ) → PlaceWith3 (write_answer l (bytes m) buffer)
