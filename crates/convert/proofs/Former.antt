-- What an old table that is sound is, sentence by sentence of the paper. Assumes nothing.
use Rattle.octets.proofs.Proving.{Bool, List, [], ◌&&◌, ◌*◌, ◌+◌, ◌<◌, ◌∙◌, ◌∷◌, ◌≡◌, ◌≤◌, arith, eqb, eqb-true, get_or, leb, leb-true, length, length-take-le, take, true, ℕ}
use Rattle.octets.specs.Choice.{all_below}
use Rattle.octets.specs.Bytes.{part, all_are, whole_at}
use Rattle.octets.proofs.Below.{both, every-at, all-at}
use Rattle.octets.proofs.Laws.{length-put}
use Rattle.orders.specs.Limits.{record_size}
use Rattle.orders.specs.Sound.{record_sound}
use Rattle.header.specs.Limits.{header_size, sum_place, table_form}
use Rattle.header.specs.Header.{header_of}
use Rattle.header.specs.Sound.{header_sound}
use Rattle.header.proofs.Holds.{HeaderGood, Formed, of-header}
use Rattle.header.proofs.Spelled.{form-put}
use Rattle.table.specs.Limits.{fewest_records, most_records}
use Rattle.table.specs.Table.{record_bytes}
use Rattle.convert.specs.Old.{old_form, old_records, old_size_good, old_header, old_used, renewed, old_sound}

-- ---- it is 64 + 80n bytes, n from 1 to 800

pub record OldSized (old : List ℕ) : Type 0 where
  pub fewest : fewest_records ≤ old_records old
  pub most : old_records old ≤ most_records
  pub long : length old ≡ header_size + record_size * old_records old

pub of-old-size : (old : List ℕ) → old_size_good old ≡ true → OldSized old
unfolding old_size_good
of-old-size old e =
    let a = both (leb fewest_records (old_records old) && leb (old_records old) most_records) _ e in
    let b = both (leb fewest_records (old_records old)) _ a.0 in
    record { fewest = leb-true _ _ b.0; most = leb-true _ _ b.1; long = eqb-true _ _ a.1 }

-- it has a whole header
pub old-there : (old : List ℕ) → old_size_good old ≡ true → header_size ≤ length old
old-there old e = let size = of-old-size old e in omega (arith, size.long)

-- a record of it lies in it
pub old-fits : (old : List ℕ) (i : ℕ) → i < old_records old → header_size + record_size * i + record_size ≤ length old
unfolding old_records
old-fits old i h = omega arith

-- ---- its header, of which byte 2 is no value

module _ (old : List ℕ) (there : header_size ≤ length old) where
  long : length (take sum_place old) ≡ sum_place
  long = length-take-le sum_place old (omega arith)

  pub length-renewed : length (renewed old) ≡ sum_place
  unfolding renewed
  length-renewed = length-put (take sum_place old) 2 (table_form ∷ []) (omega (arith, long)) ∙ long

  pub renewed-header : header_of (renewed old) ≡ old_header old
  unfolding renewed old_header
  renewed-header = form-put (take sum_place old) table_form long

-- ---- the table

-- all used records lie in it
pub record OldSound (old : List ℕ) : Type 0 where
  pub size : OldSized old
  pub head : HeaderGood (old_header old) (old_records old)
  pub form : Formed (renewed old)
  pub used : old_used old ≡ (old_header old).used
  pub records : (i : ℕ) → i < old_used old → record_sound (record_bytes old i) ≡ true

-- what the definition asks, in its order
abbrev asked : List ℕ → List Bool
asked old =
    old_size_good old ∷ eqb (whole_at old 2 1) old_form ∷ header_sound (renewed old) (old_records old) ∷ all_are 0 (part old sum_place 4)
    ∷ all_below (old_used old) (λ i. record_sound (record_bytes old i)) ∷ []

pub of-old-sound : (old : List ℕ) → old_sound old ≡ true → OldSound old
unfolding old_sound old_used
of-old-sound old e =
    let answer : (k : ℕ) → get_or (asked old) k true ≡ true = λ k. every-at (asked old) k e in
    let size = of-old-size old (answer 0) in
    let h = of-header (renewed old) (old_records old) (answer 2) in
    let good = rw (renewed-header old (omega (arith, size.long))) at h.0 in
    record {
      size = size;
      head = good;
      form = h.1;
      used = omega (arith, good.used);
      records = λ i l. all-at (λ j. record_sound (record_bytes old j)) (old_used old) i (answer 4) l;
    }
