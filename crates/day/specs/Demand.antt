-- What demand 3 asks of a schedule that got through its entries, and of the stream that came out: the conclusions of the theorems of the day.
use Rattle.std.specs.Prelude.{ℕ, zero, suc, ◌≡◌, false, List, [], ◌∷◌, ◌++◌, ◌≢◌, length, take, drop}
use Rattle.octets.specs.Bytes.{joined}
use Rattle.wire.specs.Messages.{message_length}
use Rattle.outbox.specs.Outbox.{held}
use Rattle.tape.specs.Kinds.{kind_of}
use Rattle.tape.specs.declared.kinds.Kind.TheVariants.{SetsStock}
use Rattle.host.specs.Step.{World}
use Rattle.laws.specs.Messages.{OneOfTwelve}
use Rattle.day.specs.Day.{Played, Ran}

-- ---- worlds

-- the held bytes of a world
abbrev pub bytes : World → List ℕ
bytes w = held w.ring w.marks

-- ---- the streams

-- what a schedule that got through the entries comes to, beside the same entries with unlimited room
pub record Streams (p : Played) (r : Ran) : Type 0 where
  -- released bytes followed by held bytes are the messages that unlimited room would give
  pub messages : r.released ++ bytes r.world ≡ joined p.messages
  -- the other answers agree, in order, and the places that they tell
  pub answers : r.answers ≡ p.answers
  -- and so do the final table and the final list of stocks (Ask 2)
  pub books : r.world.books ≡ p.books

-- these bytes are the beginning of that stream
pub record Begins (s : List ℕ) (whole : List ℕ) : Type 0 where
  pub rest : List ℕ
  pub is : s ++ rest ≡ whole

-- ---- the stream cut into messages, by the lengths that their types fix

-- the message in front, and then the rest
abbrev pub cut_on : List ℕ → (List ℕ → List (List ℕ)) → List (List ℕ)
cut_on [] rest = []
cut_on (b ∷ bs) rest = take (message_length false b) (b ∷ bs) ∷ rest (drop (message_length false b) (b ∷ bs))

-- until nothing is left, n messages at most
unfoldable pub cut_into : ℕ → List ℕ → List (List ℕ)
cut_into zero s = []
cut_into (suc n) s = cut_on s (cut_into n)

-- no message is empty, so there are no more messages than bytes
unfoldable pub messages_in : List ℕ → List (List ℕ)
messages_in s = cut_into (length s) s

-- each is one of the twelve, legal for its reader
abbrev pub AllOfTwelve : List (List ℕ) → Type 0
AllOfTwelve [] = Unit {0}
AllOfTwelve (m ∷ ms) = OneOfTwelve m × AllOfTwelve ms

-- the bytes cut so are these messages, each legal for its reader
pub record WholeMessages (s : List ℕ) (ms : List (List ℕ)) : Type 0 where
  pub cut : messages_in s ≡ ms
  pub legal : AllOfTwelve ms

-- ---- the list of stocks

-- none of the entries is an h
abbrev pub NoHalts : List (List ℕ) → Type 0
NoHalts [] = Unit {0}
NoHalts (s ∷ ss) = (kind_of s ≢ SetsStock) × NoHalts ss
