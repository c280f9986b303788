-- What judging the header comes to: the tests that the code makes, all of them and no others. Assumes nothing.
use Rattle.octets.proofs.Proving.{Bool, List, [], ◌&&◌, ◌∙◌, ◌∷◌, ◌≡◌, ◌≤◌, and_assoc, and-true, arith, dec_lt, eq-eqb, eqb, eqb-true, le-leb, leb, leb-true, leb·zero, lt-leb, ltb, ne_eqb, sym, true, ℕ, ℕ_discrete}
use Rattle.octets.specs.Choice.{every}
use Rattle.octets.specs.Bytes.{part, number_of}
use Rattle.octets.proofs.Below.{every-at}
use Rattle.wire.specs.Limits.{stamp_end}
use Rattle.wire.specs.Layout.{bad_place, first_bad_place, no_bad_place}
use Rattle.wire.proofs.NoneBad.{none-of-both, none-unless}
use Rattle.header.specs.Limits.{table_form, day_closed, fewest_firms, most_firms, first_reference, end_of_references, lowest_threshold, highest_threshold}
use Rattle.header.specs.Header.{header_of, header_layout}

-- a number between n and n is n
between-same : (n x : ℕ) (rest : Bool) → (leb n x && (leb x n && rest)) ≡ (eqb x n && rest)
between-same n x rest =
    elim (ℕ_discrete x n) [
      | yes e ↦ rw (le-leb n x (omega arith), le-leb x n (omega arith), eq-eqb x n e)
      | no d ↦ elim (dec_lt x n) [
        | yes l ↦ rw (lt-leb n x l, ne_eqb x n d)
        | no g ↦ rw (le-leb n x (omega arith), lt-leb x n (omega arith), ne_eqb x n d)
      ]
    ]

abbrev pub number_tests : List ℕ → List Bool
number_tests s =
    leb (number_of (part s 0 1)) day_closed
    ∷ leb fewest_firms (number_of (part s 1 1))
    ∷ leb (number_of (part s 1 1)) most_firms
    ∷ eqb (number_of (part s 2 1)) table_form
    ∷ ltb (number_of (part s 8 8)) stamp_end
    ∷ leb first_reference (number_of (part s 16 8))
    ∷ leb (number_of (part s 16 8)) end_of_references
    ∷ leb lowest_threshold (number_of (part s 24 4))
    ∷ leb (number_of (part s 24 4)) highest_threshold
    ∷ []

pub number-tests : (s : List ℕ) → no_bad_place header_layout s ≡ every (number_tests s)
unfolding no_bad_place first_bad_place bad_place
number-tests s = simp (none-of-both, none-unless, leb·zero, and-true, and_assoc, between-same)

-- a count that was judged is at most eight, before the firms are looked at
pub count-judged : (s : List ℕ) → no_bad_place header_layout s ≡ true → (header_of s).count ≤ most_firms
unfolding header_of
count-judged s good = leb-true _ _ (every-at (number_tests s) 2 (sym (number-tests s) ∙ good))

-- and the form that was judged is the table's
pub form-judged : (s : List ℕ) → no_bad_place header_layout s ≡ true → number_of (part s 2 1) ≡ table_form
form-judged s good = eqb-true _ _ (every-at (number_tests s) 3 (sym (number-tests s) ∙ good))
