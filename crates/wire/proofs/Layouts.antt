-- The laws of layouts, once over every list of fields: lengths, values that are spelled and read again, bytes that are read and spelled
-- again. Assumes nothing.
use Rattle.std.specs.Option.{option_or}
use Rattle.octets.proofs.Proving.{List, [], ◌++◌, ◌+◌, ◌∙◌, ◌∷◌, ◌≡◌, ◌≤◌, ap, append_assoc, ap₂, arith, drop, drop_at, drop-cons, drop-drop, drop_of_length-le, eqb, eqb-true, get_or, length, length-append, refl, sym, take, take_all, take-append-drop, take_at, true, ℕ}
use Rattle.std.specs.Prelude.{Option, None, Some}
use Rattle.octets.specs.Bytes.{part, number_of, digits}
use Rattle.octets.proofs.Laws.{number_digits, length_digits, digits_number, length_part, part_bytes}
use Rattle.octets.proofs.Below.{both}
use Rattle.wire.specs.Layout.{Form, number, bytes, Field, Value, Values, FitsField, Fits, read_value, spell_value, read_fields, spell_fields, Layout, spell, unbroken, well_laid}
use Rattle.wire.specs.Legal.{Bytes}

-- ---- what the computed conditions say

module _ (f : Field) (fs : List Field) (at size : ℕ) (h : unbroken at size (f ∷ fs) ≡ true) where
  pub first-at : f.at ≡ at
  unfolding unbroken
  first-at = eqb-true f.at at (both _ _ h).0

  pub rest-unbroken : unbroken (at + f.width) size fs ≡ true
  unfolding unbroken
  rest-unbroken = (both (eqb f.at at) _ h).1

pub inside : (fs : List Field) (at size : ℕ) → unbroken at size fs ≡ true → at ≤ size
unfolding unbroken
inside [] at size h = omega (arith, eqb-true at size h)
inside (f ∷ fs) at size h = omega (arith, inside fs (at + f.width) size (rest-unbroken f fs at size h))

pub whole : (l : Layout) → well_laid l ≡ true → 1 ≤ l.size
unfolding well_laid
whole l h = inside l.fields 1 l.size h

pub none_before : (x y : Option ℕ) → option_or x y ≡ None → (x ≡ None) × (y ≡ None)
none_before None y e = (refl, e)
none_before (Some at) y e = let z : ◌≡◌ {A = ℕ} 0 1 = cc in absurd (omega arith)

-- ---- one field

-- texts are as long as their fields: what the arrays' types say
abbrev pub SizedField : (form : Form) → ℕ → Value form → Type 0
SizedField number width v = Unit {0}
SizedField bytes width v = length v ≡ width

abbrev pub Sized : (fs : List Field) → Values fs → Type 0
Sized [] v = Unit {0}
Sized (f ∷ fs) v = SizedField f.form f.width v.0 × Sized fs v.1

pub length-value : (form : Form) (width : ℕ) (v : Value form) → SizedField form width v → length (spell_value form width v) ≡ width
length-value number width v h = length_digits width v
length-value bytes width v h = h

fits-sized : (form : Form) (width : ℕ) (v : Value form) → FitsField form width v → SizedField form width v
fits-sized number width v h = tt
fits-sized bytes width v h = h

value-again : (form : Form) (width : ℕ) (v : Value form) → FitsField form width v → read_value form (spell_value form width v) ≡ v
unfolding number_of
value-again number width v h = number_digits width v h
value-again bytes width v h = refl

bytes-again : (form : Form) (width : ℕ) (xs : List ℕ) → length xs ≡ width → Bytes xs → spell_value form width (read_value form xs) ≡ xs
bytes-again number width xs e b =
    ap (λ (n : ℕ). digits n (number_of xs)) (sym e)
    ∙ ap (λ (l : List ℕ). digits (length xs) (number_of l)) (sym (take_all (length xs) xs (omega arith)))
    ∙ digits_number xs b (length xs) (omega arith) ∙ take_all (length xs) xs (omega arith)
bytes-again bytes width xs e b = refl

-- ---- all fields

pub sized-all : (fs : List Field) (v : Values fs) → Fits fs v → Sized fs v
sized-all [] v h = tt
sized-all (f ∷ fs) v h = (fits-sized f.form f.width v.0 h.0, sized-all fs v.1 h.1)

pub length_fields : (fs : List Field) (v : Values fs) (at size : ℕ) → unbroken at size fs ≡ true → Sized fs v → at + length (spell_fields fs v) ≡ size
unfolding unbroken
length_fields [] v at size h s = omega (arith, eqb-true at size h)
length_fields (f ∷ fs) v at size h s =
    let b : List ℕ = spell_value f.form f.width v.0 in
    let r : List ℕ = spell_fields fs v.1 in
    omega (arith, length-append b r, length-value f.form f.width v.0 s.0, length_fields fs v.1 (at + f.width) size (rest-unbroken f fs at size h) s.1)

pub part-there : (p b q : List ℕ) (at width : ℕ) → length p ≡ at → length b ≡ width → part (p ++ (b ++ q)) at width ≡ b
part-there p b q at width ep eb = ap (take width) (drop_at p (b ++ q) at ep) ∙ take_at b q width eb

pub fields-again : (fs : List Field) (v : Values fs) (at size : ℕ) (p : List ℕ) → unbroken at size fs ≡ true → Fits fs v → length p ≡ at
    → read_fields fs (p ++ spell_fields fs v) ≡ v
fields-again [] v at size p h fits e = refl
fields-again (f ∷ fs) v at size p h fits e =
    let b : List ℕ = spell_value f.form f.width v.0 in
    let r : List ℕ = spell_fields fs v.1 in
    let eb : length b ≡ f.width = length-value f.form f.width v.0 (fits-sized f.form f.width v.0 fits.0) in
    let n : length (p ++ b) ≡ at + f.width = length-append p b ∙ ap₂ ◌+◌ e eb in
    ap₂ (λ (x : Value f.form) (y : Values fs). (x, y))
    (ap (read_value f.form) (part-there p b r f.at f.width (e ∙ sym (first-at f fs at size h)) eb) ∙ value-again f.form f.width v.0 fits.0)
    (ap (read_fields fs) (sym (append_assoc p b r)) ∙ fields-again fs v.1 (at + f.width) size (p ++ b) (rest-unbroken f fs at size h) fits.1 n)

pub spelled-again : (fs : List Field) (at size : ℕ) (s : List ℕ) → unbroken at size fs ≡ true → length s ≡ size → Bytes s
    → spell_fields fs (read_fields fs s) ≡ drop at s
unfolding unbroken
spelled-again [] at size s h e b = sym (drop_of_length-le s {i = at} (omega (arith, eqb-true at size h)))
spelled-again (f ∷ fs) at size s h e b =
    let there : f.at ≡ at = first-at f fs at size h in
    let fit : f.at + f.width ≤ length s = omega (arith, inside fs (at + f.width) size (rest-unbroken f fs at size h)) in
    ap₂ ◌++◌
    (bytes-again f.form f.width (part s f.at f.width) (length_part s f.at f.width fit) (part_bytes s b f.at f.width))
    (spelled-again fs (at + f.width) size s (rest-unbroken f fs at size h) e b)
    ∙ rw there (ap (λ (l : List ℕ). part s at f.width ++ l) (sym (drop-drop f.width at s)) ∙ take-append-drop f.width (drop at s))

-- ---- whole layouts

module _ (l : Layout) (well : well_laid l ≡ true) where
  pub length-spelled : (v : Values l.fields) → Sized l.fields v → length (spell l v) ≡ l.size
  unfolding spell well_laid
  length-spelled v s = omega (arith, length_fields l.fields v 1 l.size well s)

  -- the values of what was spelled
  pub values-again : (v : Values l.fields) → Fits l.fields v → read_fields l.fields (spell l v) ≡ v
  unfolding spell well_laid
  values-again v fits = fields-again l.fields v 1 l.size (l.code ∷ []) well fits refl

  -- bytes of the layout's length and type, read and spelled again
  pub message-again : (s : List ℕ) → length s ≡ l.size → get_or s 0 0 ≡ l.code → Bytes s → spell l (read_fields l.fields s) ≡ s
  unfolding spell well_laid
  message-again s e t b =
      ap₂ ◌∷◌ (sym t) (spelled-again l.fields 1 l.size s well e b)
      ∙ sym (drop-cons s 0 0 (omega (arith, whole l well)))
