-- What bytes are made of: a list of fields, each with its offset, its width and what is judged of it. One description serves messages,
-- entries, the header and the records.
use Rattle.std.specs.Option.{option_or}
use Rattle.std.specs.Prelude.{◌≡◌, ℕ, ◌+◌, ◌^◌, ◌<◌, Bool, true, false, ◌&&◌, List, [], ◌∷◌, ◌++◌, leb, ltb, eqb, length, Option, None, Some}
use Prim.Native.String.{String}
use Rattle.octets.specs.Choice.{pick, among}
use Rattle.wire.specs.Letters.{space, sides, sweeps, liquidity_flags, book_reasons, system_events, stock_states}
use Rattle.wire.specs.Limits.{stamp_end, token_size, lowest_price, highest_price}
use Rattle.octets.specs.Bytes.{part, put, number_of, digits, all_are}
use Rattle.wire.specs.Text.{token_byte}

-- a field holds a number or a text
pub data Form : Type 0 where
  number : Form
  bytes : Form

-- what is judged of it
pub data Rule : Type 0 where
  free : Rule
  below : ℕ → Rule
  between : ℕ → ℕ → Rule
  one_of : String → Rule
  legal_token : Rule
  blank : Rule

pub record Field : Type 0 where
  pub at : ℕ
  pub width : ℕ
  pub form : Form
  pub rule : Rule

-- ---- the fields' kinds, by their offset

abbrev pub whole_at : ℕ → ℕ → Field
whole_at at width = record { at = at; width = width; form = number; rule = free }

abbrev pub letter_at : ℕ → Field
letter_at at = whole_at at 1

abbrev pub text_at : ℕ → ℕ → Field
text_at at width = record { at = at; width = width; form = bytes; rule = free }

abbrev pub range_at : ℕ → ℕ → ℕ → ℕ → Field
range_at at width low high = record { at = at; width = width; form = number; rule = between low high }

abbrev pub one_of_at : ℕ → String → Field
one_of_at at letters = record { at = at; width = 1; form = number; rule = one_of letters }

-- spaces and nothing else
abbrev pub blank_at : ℕ → ℕ → Field
blank_at at width = record { at = at; width = width; form = bytes; rule = blank }

-- a stamp is below 86,400,000,000,000
abbrev pub stamp_at : ℕ → Field
stamp_at at = record { at = at; width = 8; form = number; rule = below stamp_end }

-- fourteen letters, digits and spaces
abbrev pub token_at : ℕ → Field
token_at at = record { at = at; width = token_size; form = bytes; rule = legal_token }

abbrev pub side_at : ℕ → Field
side_at at = one_of_at at sides

abbrev pub sweep_at : ℕ → Field
sweep_at at = one_of_at at sweeps

abbrev pub liquidity_at : ℕ → Field
liquidity_at at = one_of_at at liquidity_flags

abbrev pub book_reason_at : ℕ → Field
book_reason_at at = one_of_at at book_reasons

abbrev pub system_event_at : ℕ → Field
system_event_at at = one_of_at at system_events

abbrev pub stock_state_at : ℕ → Field
stock_state_at at = one_of_at at stock_states

abbrev pub limit_price_at : ℕ → Field
limit_price_at at = range_at at 4 lowest_price highest_price

-- ---- the values of fields, read from bytes and spelled as bytes

abbrev pub Value : Form → Type 0
Value number = ℕ
Value bytes = List ℕ

abbrev pub Values : List Field → Type 0
Values [] = Unit {0}
Values (f ∷ fs) = Value f.form × Values fs

-- one value and the values behind it
infixr 20 ◌&◌
abbrev pub ◌&◌ : {A B : Type 0} → A → B → A × B
a & b = (a, b)

abbrev pub read_value : (form : Form) → List ℕ → Value form
read_value number xs = number_of xs
read_value bytes xs = xs

abbrev pub spell_value : (form : Form) → ℕ → Value form → List ℕ
spell_value number width v = digits width v
spell_value bytes width v = v

-- a field's value, of all the bytes
abbrev pub get : (f : Field) → List ℕ → Value f.form
get f s = read_value f.form (part s f.at f.width)

abbrev pub read_fields : (fs : List Field) → List ℕ → Values fs
read_fields [] s = tt
read_fields (f ∷ fs) s = (get f s, read_fields fs s)

abbrev pub spell_fields : (fs : List Field) → Values fs → List ℕ
spell_fields [] v = []
spell_fields (f ∷ fs) v = spell_value f.form f.width v.0 ++ spell_fields fs v.1

-- u is t with a field's value put at its offset, a text as wide as the field
abbrev pub PutField : (form : Form) → ℕ → ℕ → Value form → List ℕ → List ℕ → Type 0
PutField number at width v t u = u ≡ put t at (digits width v)
PutField bytes at width v t u = (u ≡ put t at v) × (length v ≡ width)

-- .. and with the values of fields, one after the other
infixr 5 ◌then◌
pub data PutFields : (fs : List Field) → Values fs → List ℕ → List ℕ → Type 0 where
  ends : {t : List ℕ} → PutFields [] tt t t
  ◌then◌ : {f : Field} {fs : List Field} {v : Value f.form} {vs : Values fs} {t m u : List ℕ}
      → PutField f.form f.at f.width v t m → PutFields fs vs m u → PutFields (f ∷ fs) (v, vs) t u

-- the values of some fields and of those behind them
abbrev pub both_values : (fs gs : List Field) → Values fs → Values gs → Values (fs ++ gs)
both_values [] gs v w = w
both_values (f ∷ fs) gs v w = (v.0, both_values fs gs v.1 w)

-- a value that its field can hold: a number below 256 to the width, a text of the width
abbrev pub FitsField : (form : Form) → ℕ → Value form → Type 0
FitsField number width v = v < 256 ^ width
FitsField bytes width v = length v ≡ width

abbrev pub Fits : (fs : List Field) → Values fs → Type 0
Fits [] v = Unit {0}
Fits (f ∷ fs) v = FitsField f.form f.width v.0 × Fits fs v.1

-- the same with the values one by one: a layout is written and read as a function of its fields, in their order

abbrev pub FromFields : List Field → Type 0 → Type 0
FromFields [] R = R
FromFields (f ∷ fs) R = Value f.form → FromFields fs R

abbrev pub one_by_one : {R : Type 0} (fs : List Field) → (Values fs → R) → FromFields fs R
one_by_one [] k = k tt
one_by_one (f ∷ fs) k = λ v. one_by_one fs (λ vs. k (v, vs))

abbrev pub at_once : {R : Type 0} (fs : List Field) → FromFields fs R → Values fs → R
at_once [] r v = r
at_once (f ∷ fs) g v = at_once fs (g v.0) v.1

-- of some fields and those behind them, where the first make one part of the whole
abbrev pub grouped : {A : Type 0} (R : Type 0) (fs gs : List Field) → FromFields fs A → (A → FromFields gs R) → FromFields (fs ++ gs) R
grouped R [] gs a rest = rest a
grouped R (f ∷ fs) gs a rest = λ v. grouped R fs gs (a v) rest

abbrev pub reading : {R : Type 0} (fs : List Field) → List ℕ → FromFields fs R → R
reading fs s g = at_once fs g (read_fields fs s)

abbrev pub laid : (fs : List Field) → FromFields fs (List ℕ)
laid fs = one_by_one fs (spell_fields fs)

-- ---- the first bad place

-- where the first byte stands, from `at` on, that no token holds
unfoldable pub bad_token_byte : ℕ → List ℕ → Option ℕ
bad_token_byte at [] = None
bad_token_byte at (b ∷ bs) = pick (token_byte b) (bad_token_byte (1 + at) bs) (Some at)

abbrev pub unless : Bool → ℕ → Option ℕ
unless ok at = pick ok None (Some at)

-- of a field at `at` with the bytes xs
unfoldable pub bad_place : Rule → ℕ → List ℕ → Option ℕ
bad_place free at xs = None
bad_place (below n) at xs = unless (ltb (number_of xs) n) at
bad_place (between low high) at xs = unless (leb low (number_of xs) && leb (number_of xs) high) at
bad_place (one_of letters) at xs = unless (among letters (number_of xs)) at
bad_place legal_token at xs = bad_token_byte at xs
bad_place blank at xs = unless (all_are space xs) at

-- of the fields, in their order
unfoldable pub first_bad_place : List Field → List ℕ → Option ℕ
first_bad_place [] s = None
first_bad_place (f ∷ fs) s = option_or (bad_place f.rule f.at (part s f.at f.width)) (first_bad_place fs s)

abbrev pub is_none : Option ℕ → Bool
is_none None = true
is_none (Some at) = false

unfoldable pub no_bad_place : List Field → List ℕ → Bool
no_bad_place fs s = is_none (first_bad_place fs s)

-- ---- layouts: a first byte that says what it is, a length, and the fields behind

pub record Layout : Type 0 where
  pub code : ℕ
  pub size : ℕ
  pub fields : List Field

-- the first of the layouts with this first byte
unfoldable pub layout_for : List Layout → ℕ → Option Layout
layout_for [] code = None
layout_for (l ∷ ls) code = pick (eqb l.code code) (Some l) (layout_for ls code)

-- the bytes of a layout with these values
unfoldable pub spell : (l : Layout) → Values l.fields → List ℕ
spell l v = l.code ∷ spell_fields l.fields v

abbrev pub the : (l : Layout) → FromFields l.fields (List ℕ)
the l = one_by_one l.fields (spell l)

-- the fields stand one behind the other from `at` on and end at `size`
unfoldable pub unbroken : ℕ → ℕ → List Field → Bool
unbroken at size [] = eqb at size
unbroken at size (f ∷ fs) = eqb f.at at && unbroken (at + f.width) size fs

unfoldable pub well_laid : Layout → Bool
well_laid l = unbroken 1 l.size l.fields

-- a field that stands k bytes further on
abbrev pub shifted : ℕ → Field → Field
shifted k f = record { at = f.at + k; width = f.width; form = f.form; rule = f.rule }
