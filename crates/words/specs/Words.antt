-- The words that the programs take, beyond the paper: without one they do what it says ('a 4,096-byte ring emptied after each entry', 800 records).
use Rattle.std.specs.Prelude.{ℕ, ◌+◌, ◌*◌, ◌-◌, ◌≤◌, Bool, ◌&&◌, Option, Some, None, List, [], ◌∷◌, leb, ltb}
use Rattle.std.specs.Bool.{then_some}
use Prim.Native.Char.{code}
use Rattle.octets.specs.Bytes.{same}
use Rattle.octets.specs.Choice.{first_of◌, ◌⇒◌⨾◌, text}
use Rattle.table.specs.Limits.{most_records}
use Rattle.outbox.specs.Limits.{shortest_ring, longest_ring}
pub use Rattle.words.specs.declared.Words.{Words}
pub use Rattle.words.specs.declared.Word.{Word}
pub use Rattle.words.specs.declared.Word.TheVariants.{Ring, Release, Records}

-- a reader that may take as much as the longest ring holds empties every ring
abbrev pub usual : Words
usual = record { ring = 4096; release = longest_ring; records = most_records }

-- ---- numbers

-- one digit more; none where it is no digit, or the number is larger than any word takes
unfoldable pub with_digit : ℕ → ℕ → Option ℕ
with_digit n digit =
    first_of
    ltb digit (code "0") ⇒ None
    ⨾ ltb (code "9") digit ⇒ None
    ⨾ ltb longest_ring (n * 10 + (digit - code "0")) ⇒ None
    ⨾ Some (n * 10 + (digit - code "0"))

abbrev pub further : Option ℕ → ℕ → Option ℕ
further None digit = None
further (Some n) digit = with_digit n digit

unfoldable pub number_from : Option ℕ → List ℕ → Option ℕ
number_from n [] = n
number_from n (digit ∷ rest) = number_from (further n digit) rest

unfoldable pub number_in : List ℕ → Option ℕ
number_in s = number_from (Some 0) s

-- ---- words

unfoldable pub word_of : List ℕ → Option Word
word_of name =
    first_of
    same name (text "ring") ⇒ Some Ring
    ⨾ same name (text "release") ⇒ Some Release
    ⨾ same name (text "records") ⇒ Some Records
    ⨾ None

-- the numbers that a word takes
abbrev pub takes : Word → ℕ → Bool
takes Ring n = leb shortest_ring n && leb n longest_ring
takes Release n = leb 1 n && leb n longest_ring
takes Records n = leb 1 n && leb n most_records

abbrev pub with_word : Words → Word → ℕ → Words
with_word w Ring n = record { ring = n; release = w.release; records = w.records }
with_word w Release n = record { ring = w.ring; release = n; records = w.records }
with_word w Records n = record { ring = w.ring; release = w.release; records = n }

-- the words with one more, where it and its number are understood
abbrev pub with_both : Words → Option Word → Option ℕ → Option Words
with_both w (Some word) (Some n) = then_some (takes word n) (with_word w word n)
with_both w (Some word) None = None
with_both w None n = None

-- a word and the text behind it
unfoldable pub heard : Words → List ℕ → List ℕ → Option Words
heard before name value = with_both before (word_of name) (number_in value)

-- a table of 800 records, which is proved to be as long
abbrev pub longest_table : ℕ
longest_table = 64_164

-- what may come of the words, whatever is typed
pub record Allowed (w : Words) : Type 0 where
  pub ring-low : shortest_ring ≤ w.ring
  pub ring-high : w.ring ≤ longest_ring
  pub release-low : 1 ≤ w.release
  pub records-low : 1 ≤ w.records
  pub records-high : w.records ≤ most_records
