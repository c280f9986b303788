-- What judging knows of an entry whose kind is known: how long it is, and where its first bad place is looked for. Assumes nothing.
use Rattle.octets.proofs.Proving.{Bool, List, ◌∙◌, ◌∷◌, ◌≡◌, ◌≤◌, ap, arith, eqb, eqb-false, eqb-true, false, get_or, length, not, not-true, refl, sym, true, ℕ}
use Rattle.octets.proofs.Below.{both}
use Rattle.answers.specs.Answer.{Malformed, Done}
use Rattle.wire.specs.Layout.{stamp_at, bad_place, first_bad_place, unbroken}
use Rattle.wire.specs.Messages.{bad_at◌⨾◌}
use Rattle.tape.specs.Kinds.{Kind, Enters, Replaces, Cancels, Modifies, Executes, BookCancels, SelfMatches, Prioritises, TurnsLate, EndsCross, TellsDay, SetsStock, Purges, Disables, Enables, Unknown, kind_by, kind_of, layout_of, purge_entry}
use Rattle.tape.specs.Entries.{well_formed, bad_place_of, entry_answer, purges}
use Rattle.tape.specs.Behind.{behind_of, judged_fields, Within}

-- ---- lengths

-- a well-formed entry is as long as its kind says, and its kind is one
pub record Formed (s : List ℕ) (kind : Kind) : Type 0 where
  pub long : length s ≡ (layout_of kind).size
  pub known : (layout_of kind).size ≡ 0 → ⊥

pub formed : (s : List ℕ) → well_formed s ≡ true → Formed s (kind_of s)
unfolding well_formed
formed s w =
    let size = (layout_of (kind_of s)).size in
    let b = both (not (eqb size 0)) (eqb (length s) size) w in
    record { long = eqb-true (length s) size b.1; known = eqb-false size 0 (not-true (eqb size 0) b.0) }

-- the same for a kind that was asked for and told
pub long_as : (s : List ℕ) → well_formed s ≡ true → {r kind : Kind} → r ≡ kind_of s → r ≡ kind → length s ≡ (layout_of kind).size
long_as s w promise told = (formed s w).long ∙ ap (λ (k : Kind). (layout_of k).size) (sym promise ∙ told)

-- what begins as a w is one, and as long
pub purges-kind : (s : List ℕ) → purges s ≡ true → kind_of s ≡ Purges
unfolding purges kind_of kind_by
purges-kind s w = rw (eqb-true (get_or s 0 0) purge_entry.code w)

pub purge-long : (s : List ℕ) → well_formed s ≡ true → {r : Bool} → r ≡ purges s → r ≡ true → length s ≡ 21
purge-long s w promise told = long_as s w refl (purges-kind s (sym promise ∙ told))

-- the judged fields of a kind lie in an entry of its length
pub within : (kind : Kind) → Within (behind_of kind) (layout_of kind).size
within Enters = (omega arith, omega arith)
within Replaces = (omega arith, omega arith)
within Cancels = (omega arith, omega arith)
within Modifies = (omega arith, omega arith)
within Executes = (omega arith, omega arith)
within BookCancels = (omega arith, omega arith)
within SelfMatches = (omega arith, omega arith)
within Prioritises = omega arith
within TurnsLate = omega arith
within EndsCross = omega arith
within TellsDay = omega arith
within SetsStock = omega arith
within Purges = tt
within Disables = tt
within Enables = tt
within Unknown = tt

-- every kind has room for a stamp
pub stamped : (kind : Kind) → ((layout_of kind).size ≡ 0 → ⊥) → 9 ≤ (layout_of kind).size
stamped Enters h = omega arith
stamped Replaces h = omega arith
stamped Cancels h = omega arith
stamped Modifies h = omega arith
stamped Executes h = omega arith
stamped BookCancels h = omega arith
stamped SelfMatches h = omega arith
stamped Prioritises h = omega arith
stamped TurnsLate h = omega arith
stamped EndsCross h = omega arith
stamped TellsDay h = omega arith
stamped SetsStock h = omega arith
stamped Purges h = omega arith
stamped Disables h = omega arith
stamped Enables h = omega arith
stamped Unknown h = absurd (h refl)

pub stamp-fits : (s : List ℕ) → well_formed s ≡ true → 9 ≤ length s
stamp-fits s w = let f = formed s w in omega (arith, f.long, stamped (kind_of s) f.known)

-- ---- places

-- a stamp, and then the judged fields: all that a kind's layout judges
pub judged : (kind : Kind) (s : List ℕ) → ((layout_of kind).size ≡ 0 → ⊥)
    → first_bad_place (layout_of kind).fields s ≡ first_bad_place (stamp_at 1 ∷ judged_fields (behind_of kind)) s
unfolding first_bad_place bad_place
judged Enters s h = refl
judged Replaces s h = refl
judged Cancels s h = refl
judged Modifies s h = refl
judged Executes s h = refl
judged BookCancels s h = refl
judged SelfMatches s h = refl
judged Prioritises s h = refl
judged TurnsLate s h = refl
judged EndsCross s h = refl
judged TellsDay s h = refl
judged SetsStock s h = refl
judged Purges s h = refl
judged Disables s h = refl
judged Enables s h = refl
judged Unknown s h = absurd (h refl)

-- the fields of a kind stand one behind the other, from the stamp on
pub well-laid : (kind : Kind) → ((layout_of kind).size ≡ 0 → ⊥) → unbroken 1 (layout_of kind).size (layout_of kind).fields ≡ true
unfolding unbroken
well-laid Enters h = refl
well-laid Replaces h = refl
well-laid Cancels h = refl
well-laid Modifies h = refl
well-laid Executes h = refl
well-laid BookCancels h = refl
well-laid SelfMatches h = refl
well-laid Prioritises h = refl
well-laid TurnsLate h = refl
well-laid EndsCross h = refl
well-laid TellsDay h = refl
well-laid SetsStock h = refl
well-laid Purges h = refl
well-laid Disables h = refl
well-laid Enables h = refl
well-laid Unknown h = absurd (h refl)

-- ---- 2, 3 or neither

pub answer-judged : (s : List ℕ) → well_formed s ≡ true → (bad_at bad_place_of s ⨾ Done) ≡ entry_answer s
unfolding entry_answer bad_place_of
answer-judged s w = sym (rw w)

pub answer-malformed : (s : List ℕ) → well_formed s ≡ false → Malformed ≡ entry_answer s
unfolding entry_answer
answer-malformed s h = rw h
