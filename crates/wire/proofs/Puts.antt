-- A run of puts over a part of the bytes: fields that stand one behind the other from a place on are spelled there, and nothing else changes.
-- Once over every list of fields. Assumes nothing.
use Rattle.octets.proofs.Proving.{List, [], ◌++◌, ◌+◌, ◌∙◌, ◌∷◌, ◌≡◌, ◌≤◌, ap, append_assoc, arith, length, refl, sym, true, ℕ}
use Rattle.octets.specs.Bytes.{put}
use Rattle.octets.proofs.Laws.{put-none, put-put, length-put}
use Rattle.wire.specs.Layout.{Form, number, bytes, Field, Values, both_values, Value, PutField, PutFields, ends, ◌then◌, spell_value, spell_fields, unbroken}
use Rattle.wire.proofs.Layouts.{SizedField, Sized, length-value, length_fields, inside, first-at, rest-unbroken}

as-spelled : (form : Form) (at width : ℕ) (v : Value form) (t u : List ℕ) → PutField form at width v t u → (u ≡ put t at (spell_value form width v)) × SizedField form width v
as-spelled number at width v t u h = (h, tt)
as-spelled bytes at width v t u h = h

pub puts : {fs : List Field} {v : Values fs} {t u : List ℕ} → PutFields fs v t u → (n size : ℕ) → unbroken n size fs ≡ true → size ≤ length t
    → (u ≡ put t n (spell_fields fs v)) × Sized fs v
puts (ends {t}) n size h room = (sym (put-none t n), tt)
puts (◌then◌ {f} {fs} {v} {vs} {t} {m} {u} p r) n size h room =
    let b : List ℕ = spell_value f.form f.width v in
    let q = as-spelled f.form f.at f.width v t m p in
    let at = first-at f fs n size h in
    let rest = rest-unbroken f fs n size h in
    let long : length b ≡ f.width = length-value f.form f.width v q.1 in
    let in_size = inside fs (n + f.width) size rest in
    let there : m ≡ put t n b = q.0 ∙ ap (λ (k : ℕ). put t k b) at in
    let same : length m ≡ length t = ap length there ∙ length-put t n b (omega arith) in
    let later = puts r (n + f.width) size rest (omega arith) in
    let tail : n + f.width + length (spell_fields fs vs) ≡ size = length_fields fs vs (n + f.width) size rest later.1 in (
      later.0 ∙ ap (λ (l : List ℕ). put l (n + f.width) (spell_fields fs vs)) there
          ∙ ap (λ (k : ℕ). put (put t n b) (n + k) (spell_fields fs vs)) (sym long)
          ∙ put-put t n b (spell_fields fs vs) (omega arith),
      (q.1, later.1),
    )

-- what they are, and how many
pub puts-at : (fs : List Field) (v : Values fs) (t : List ℕ) {u : List ℕ} → PutFields fs v t u → (n size : ℕ) → unbroken n size fs ≡ true → size ≤ length t
    → (u ≡ put t n (spell_fields fs v)) × (n + length (spell_fields fs v) ≡ size)
puts-at fs v t r n size h room = let p = puts r n size h room in (p.0, length_fields fs v n size h p.1)

-- ---- fields in two parts

-- those that are put by a function of their own, and those behind them
pub behind : {fs gs : List Field} {v : Values fs} {w : Values gs} {t m u : List ℕ} → PutFields fs v t m → PutFields gs w m u → PutFields (fs ++ gs) (both_values fs gs v w) t u
behind ends s = s
behind (p then r) s = p then behind r s

-- spelled one behind the other
pub spelled-behind : (fs gs : List Field) (v : Values fs) (w : Values gs)
    → spell_fields fs v ++ spell_fields gs w ≡ spell_fields (fs ++ gs) (both_values fs gs v w)
spelled-behind [] gs v w = refl
spelled-behind (f ∷ fs) gs v w =
    append_assoc (spell_value f.form f.width v.0) (spell_fields fs v.1) (spell_fields gs w)
    ∙ ap (λ (l : List ℕ). spell_value f.form f.width v.0 ++ l) (spelled-behind fs gs v.1 w)
