-- Values that obey their fields' rules, spelled, are a legal message. Assumes nothing.
use Rattle.octets.proofs.Proving.{List, List·Memᴰ·cases-cons, List·Memᴰ·not-nil, [], ◌++◌, ◌+◌, ◌∙◌, ◌∷◌, ◌≡◌, append_assoc, ap₂, length, length-append, refl, subst, sym, true, ℕ, ⊎_elim}
use Rattle.octets.specs.Bytes.{part}
use Rattle.answers.specs.Answer.{Done}
use Rattle.wire.specs.Layout.{Field, Values, spell_value, spell_fields, Layout, spell, unbroken, well_laid}
use Rattle.wire.specs.Legal.{Obeys, AllObey}
use Rattle.wire.specs.Messages.{read_answer}
use Rattle.wire.proofs.Layouts.{part-there, Sized, length-value, length-spelled, first-at, rest-unbroken}
use Rattle.wire.proofs.Exactly.{done-exactly}

abbrev pub Obeying : (fs : List Field) → Values fs → Type 0
Obeying [] v = Unit {0}
Obeying (f ∷ fs) v = Obeys f.rule (spell_value f.form f.width v.0) × Obeying fs v.1

fields-obey : (fs : List Field) (v : Values fs) (at size : ℕ) (p : List ℕ) → unbroken at size fs ≡ true → Sized fs v → Obeying fs v → length p ≡ at
    → AllObey fs (p ++ spell_fields fs v)
fields-obey [] v at size p h sized good e f m = absurd (List·Memᴰ·not-nil m)
fields-obey (g ∷ fs) v at size p h sized good e f m =
    let b : List ℕ = spell_value g.form g.width v.0 in
    let r : List ℕ = spell_fields fs v.1 in
    let eb : length b ≡ g.width = length-value g.form g.width v.0 sized.0 in
    let n : length (p ++ b) ≡ at + g.width = length-append p b ∙ ap₂ ◌+◌ e eb in
    ⊎_elim
    (λ same.
    subst (λ (x : Field). Obeys x.rule (part (p ++ (b ++ r)) x.at x.width)) (sym same)
    (subst (Obeys g.rule) (sym (part-there p b r g.at g.width (e ∙ sym (first-at g fs at size h)) eb)) good.0))
    (λ t.
    subst (λ (s : List ℕ). Obeys f.rule (part s f.at f.width)) (append_assoc p b r)
    (fields-obey fs v.1 (at + g.width) size (p ++ b) (rest-unbroken g fs at size h) sized.1 good.1 n f t))
    (List·Memᴰ·cases-cons m)

pub spelled-legal : (l : Layout) → well_laid l ≡ true → (v : Values l.fields) → Sized l.fields v → Obeying l.fields v
    → read_answer l (spell l v) ≡ Done
unfolding spell well_laid
spelled-legal l well v sized good =
    (done-exactly l (spell l v)).1
    (record {
      long = length-spelled l well v sized;
      typed = refl;
      judged = fields-obey l.fields v 1 l.size (l.code ∷ []) well sized good refl;
    })
