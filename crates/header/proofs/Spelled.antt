-- A header and its bytes, there and back: a header that is spelled and read again is the same, and so are bytes that are read and spelled again,
-- as they were judged to have the table's form. Both are citations of the laws of layouts. Assumes nothing.
use Rattle.octets.proofs.Proving.{List, [], ◌∙◌, ◌∷◌, ◌≡◌, ap, arith, length, lit<, refl, sym, true, ℕ}
use Rattle.octets.specs.Bytes.{put}
use Rattle.wire.specs.Legal.{Bytes}
use Rattle.wire.specs.Layout.{Values, ◌&◌, Fits, at_once, spell_fields, no_bad_place, unbroken}
use Rattle.wire.proofs.Layouts.{sized-all, length_fields, fields-again, spelled-again}
use Rattle.header.specs.Limits.{sum_place, table_form}
use Rattle.header.specs.Header.{Header, header_layout, header_fields, header_of, header_bytes}
use Rattle.header.specs.Whole.{WholeHeader}
use Rattle.header.proofs.Judged.{form-judged}

-- the fields of a header, with this form in byte 2
abbrev formed_as : ℕ → Header → Values header_layout
formed_as form h = h.day & h.count & form & h.blocked & h.used & h.last & h.reference & h.threshold.0 & h.firms & tt

abbrev header_values : Header → Values header_layout
header_values h = formed_as table_form h

header-fits : (h : Header) → WholeHeader h → Fits header_layout (header_values h)
header-fits h w = w.day & w.count & lit< tt & w.blocked & w.used & w.last & w.reference & w.threshold & w.firms & tt

header-unbroken : unbroken 0 sum_place header_layout ≡ true
unfolding unbroken
header-unbroken = refl

module _ (h : Header) (w : WholeHeader h) where
  pub length-header : length (header_bytes h) ≡ sum_place
  unfolding header_bytes
  length-header =
      omega (arith, length_fields header_layout (header_values h) 0 sum_place header-unbroken (sized-all header_layout (header_values h) (header-fits h w)))

  pub header-again : header_of (header_bytes h) ≡ h
  unfolding header_of header_bytes
  header-again =
      ap (at_once header_layout header_fields) (fields-again header_layout (header_values h) 0 sum_place [] header-unbroken (header-fits h w) refl)

-- ---- bytes

module _ (s : List ℕ) (bytes : Bytes s) where
  pub header-bytes-again : length s ≡ sum_place → no_bad_place header_layout s ≡ true → header_bytes (header_of s) ≡ s
  unfolding header_of header_bytes
  header-bytes-again e good =
      ap (λ (form : ℕ). spell_fields header_layout (formed_as form (header_of s))) (sym (form-judged s good))
      ∙ spelled-again header_layout 0 sum_place s header-unbroken e bytes

-- ---- the form

-- whatever is written in byte 2, no value of the header changes
pub form-put : (s : List ℕ) (b : ℕ) → length s ≡ sum_place → header_of (put s 2 (b ∷ [])) ≡ header_of s
unfolding header_of
form-put [] b e = absurd (omega arith)
form-put (day ∷ []) b e = absurd (omega arith)
form-put (day ∷ count ∷ []) b e = absurd (omega arith)
form-put (day ∷ count ∷ form ∷ rest) b e = refl
