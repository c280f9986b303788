-- What a header that holds is, sentence by sentence of the paper, and back. Assumes nothing.
use Rattle.octets.proofs.Proving.{Bool, List, [], ◌<◌, ◌^◌, ◌∙◌, ◌∷◌, ◌≡◌, ◌≤◌, eq-eqb, get_or, le-leb, leb, leb-true, lt-ltb, ltb, ltb-true, refl, sym, true, ℕ}
use Rattle.octets.specs.Bytes.{part, number_from, number_of, digits}
use Rattle.octets.proofs.Below.{every-at}
use Rattle.wire.specs.Limits.{stamp_end}
use Rattle.wire.specs.Layout.{no_bad_place}
use Rattle.header.specs.Limits.{table_form, day_closed, fewest_firms, most_firms, first_reference, end_of_references, lowest_threshold, highest_threshold}
use Rattle.header.specs.Header.{Header, header_of, header_bytes, header_layout}
use Rattle.header.specs.Firms.{firms_shaped, rest_blank}
use Rattle.header.specs.Sound.{header_sound}
use Rattle.header.specs.Whole.{WholeHeader}
use Rattle.header.proofs.Judged.{number_tests, number-tests, form-judged}

pub record HeaderGood (h : Header) (n : ℕ) : Type 0 where
  pub day : h.day ≤ day_closed
  pub fewest-firms : fewest_firms ≤ h.count
  pub most-firms : h.count ≤ most_firms
  pub used : h.used ≤ n
  pub last : h.last < stamp_end
  pub lowest-reference : first_reference ≤ h.reference
  pub highest-reference : h.reference ≤ end_of_references
  pub lowest-threshold : lowest_threshold ≤ h.threshold.0
  pub highest-threshold : h.threshold.0 ≤ highest_threshold
  pub shaped : firms_shaped h.firms h.count ≡ true
  pub rest : rest_blank h.firms h.count ≡ true
  pub blocked : h.blocked < 2 ^ h.count

-- byte 2, which no value of the header says, is the table's form (Ask 6)
abbrev pub Formed : List ℕ → Type 0
Formed s = number_of (part s 2 1) ≡ table_form

module _ (s : List ℕ) (n : ℕ) where
  -- what the definition asks, in its order
  asked : List Bool
  asked =
      no_bad_place header_layout s ∷ leb (header_of s).used n ∷ firms_shaped (header_of s).firms (header_of s).count
      ∷ rest_blank (header_of s).firms (header_of s).count ∷ ltb (header_of s).blocked (2 ^ (header_of s).count) ∷ []

  pub of-header : header_sound s n ≡ true → HeaderGood (header_of s) n × Formed s
  unfolding header_of header_sound asked
  of-header e =
      let answer : (k : ℕ) → get_or asked k true ≡ true = λ k. every-at asked k e in
      let test : (k : ℕ) → get_or (number_tests s) k true ≡ true = λ k. every-at (number_tests s) k (sym (number-tests s) ∙ answer 0) in (
        record {
          day = leb-true _ _ (test 0);
          fewest-firms = leb-true _ _ (test 1);
          most-firms = leb-true _ _ (test 2);
          used = leb-true _ _ (answer 1);
          last = ltb-true _ _ (test 4);
          lowest-reference = leb-true _ _ (test 5);
          highest-reference = leb-true _ _ (test 6);
          lowest-threshold = leb-true _ _ (test 7);
          highest-threshold = leb-true _ _ (test 8);
          shaped = answer 2;
          rest = answer 3;
          blocked = ltb-true _ _ (answer 4);
        },
        form-judged s (answer 0),
      )

  pub to-header : HeaderGood (header_of s) n → Formed s → header_sound s n ≡ true
  unfolding header_of header_sound
  to-header h f =
      rw (number-tests s, le-leb _ _ h.day, le-leb _ _ h.fewest-firms, le-leb _ _ h.most-firms, eq-eqb _ _ f, lt-ltb _ _ h.last, le-leb _ _ h.lowest-reference, le-leb _ _ h.highest-reference, le-leb _ _ h.lowest-threshold, le-leb _ _ h.highest-threshold, le-leb _ _ h.used, h.shaped, h.rest, lt-ltb _ _ h.blocked)

-- what is spelled has the form
pub spelled-form : (h : Header) → WholeHeader h → Formed (header_bytes h)
unfolding header_bytes digits number_from number_of
spelled-form h w = refl
