-- A run of puts, a field each at its offset, spells the message: once over every layout. Assumes nothing.
use Rattle.octets.proofs.Proving.{List, T, ◌++◌, ◌<◌, ◌∙◌, ◌≡◌, ◌≤◌, ap, arith, length, lit<, ltb, sym, take, take_at, true, zero-add, ℕ}
use Rattle.answers.specs.Answer.{Answer}
use Rattle.octets.specs.Bytes.{put, digits, zeros}
use Rattle.octets.proofs.Laws.{length_digits, put-put, length-put, digits-byte, drop-zeros}
use Rattle.wire.specs.Limits.{longest_message}
use Rattle.wire.specs.Layout.{Values, spell_fields, PutFields, Layout, spell, well_laid}
use Rattle.wire.specs.Messages.{message_layout, in_eighty, write_answer, buffer_after}
use Rattle.wire.proofs.Numbered.{well-laid, at-most-longest}
use Rattle.wire.proofs.Layouts.{length-spelled}
use Rattle.wire.proofs.Puts.{puts}

-- over zeros it leaves the message, with zeros behind it
ran : (l : Layout) → well_laid l ≡ true → l.code < 256 → l.size ≤ longest_message → {v : Values l.fields} {u : List ℕ}
    → PutFields l.fields v (put (zeros longest_message) 0 (digits 1 l.code)) u → (u ≡ in_eighty (spell l v)) × (length (spell l v) ≡ l.size)
unfolding spell well_laid in_eighty
ran l well code small {v} r =
    let xs : List ℕ = zeros longest_message in
    let type : List ℕ = digits 1 l.code in
    let byte = length_digits 1 l.code in
    let all = puts r 1 l.size well (omega (arith, small, length-put xs 0 type (omega (arith, byte)))) in
    let long = length-spelled l well v all.1 in
    let one : put (put xs 0 type) 1 (spell_fields l.fields v) ≡ put xs 0 (spell l v) =
    ap (λ (n : ℕ). put (put xs 0 type) n (spell_fields l.fields v)) (sym byte ∙ sym (zero-add (length type)))
    ∙ put-put xs 0 type (spell_fields l.fields v) (omega (arith, byte, long, small)) ∙ ap (λ (b : List ℕ). put xs 0 (b ++ spell_fields l.fields v)) (digits-byte l.code code) in
    (all.0 ∙ one ∙ rw zero-add (ap (λ (z : List ℕ). spell l v ++ z) (drop-zeros (length (spell l v)) longest_message (omega arith))), long)

-- message k is spelled so, behind its type
pub spelled : (k : ℕ) → T (ltb k 16) → {v : Values (message_layout k).fields} {t u : List ℕ} → t ≡ put (zeros longest_message) 0 (digits 1 (message_layout k).code)
    → PutFields (message_layout k).fields v t u → (u ≡ in_eighty (spell (message_layout k) v)) × (length (spell (message_layout k) v) ≡ (message_layout k).size)
spelled k h e r = let ok = well-laid k (lit< h) in ran (message_layout k) ok.0 ok.1 (at-most-longest k) (rw e at r)

-- what was spelled is what is sent
pub written : (l : Layout) (m buffer : List ℕ) {u exit : List ℕ} {r : Answer} → (u ≡ in_eighty m) × (length m ≡ l.size)
    → (r ≡ write_answer l (take l.size u) buffer) × (exit ≡ buffer_after l (take l.size u) buffer)
    → (r ≡ write_answer l m buffer) × (exit ≡ buffer_after l m buffer)
unfolding in_eighty
written l m buffer {u} e w =
    let front : take l.size u ≡ m = ap (take l.size) e.0 ∙ take_at m _ l.size e.1 in
    rw front at w
