-- What a reader and a writer answer, by what the code found on its way there. Assumes nothing.
use Rattle.octets.proofs.Proving.{Bool, List, ◌&&◌, ◌++◌, ◌∙◌, ◌≡◌, ◌≤◌, ap, ap₂, arith, drop, eq-eqb, eqb, eqb-true, false, false≢true, get_or, length, length-take-le, ltb, le-ltb, ltb-false, ne_eqb, not, refl, sym, take, true, zero-add, ℕ}
use Rattle.std.specs.Prelude.{Option, None, Some, Err}
use Rattle.octets.specs.Choice.{◌⇒◌⨾◌}
use Rattle.octets.specs.Bytes.{put}
use Rattle.octets.proofs.Below.{both}
use Rattle.answers.specs.Answer.{is_done, if_done}
use Rattle.answers.specs.Answer.{Answer}
use Rattle.answers.specs.declared.Refusal.{Refusal}
use Rattle.answers.specs.Answer.{Done, Malformed, BadField, NoRoom}
use Rattle.wire.specs.Layout.{Layout, first_bad_place}
use Rattle.wire.specs.Messages.{bad_at◌⨾◌, framed, read_answer, write_answer, buffer_after}

module _ (l : Layout) (s : List ℕ) where
  pub wrong-length : (length s ≡ l.size → ⊥) → read_answer l s ≡ Malformed
  unfolding read_answer
  wrong-length h = rw (ne_eqb (length s) l.size h)

  pub wrong_type : length s ≡ l.size → (get_or s 0 0 ≡ l.code → ⊥) → read_answer l s ≡ Malformed
  unfolding read_answer
  wrong_type e h = rw (eq-eqb (length s) l.size e, ne_eqb (get_or s 0 0) l.code h)

  pub judged : length s ≡ l.size → get_or s 0 0 ≡ l.code → read_answer l s ≡ (bad_at first_bad_place l.fields s ⨾ Done)
  unfolding read_answer
  judged e t = rw (eq-eqb (length s) l.size e, eq-eqb (get_or s 0 0) l.code t)

  -- the same of a frame that was asked for at once, as code does
  pub unframed : framed l.size l.code s ≡ false → Malformed ≡ read_answer l s
  unfolding read_answer
  unframed h = either (eqb (length s) l.size) (eqb (get_or s 0 0) l.code) _ h
    where
      either : (a b : Bool) (next : Answer) → (a && b) ≡ false → Malformed ≡ (not a ⇒ Malformed ⨾ not b ⇒ Malformed ⨾ next)
      either true true next h = absurd (false≢true (sym h))
      either true false next h = refl
      either false b next h = refl

  -- size and type as the code has them
  pub framed-by : {size letter : ℕ} {r b : Bool} → size ≡ l.size → letter ≡ l.code → r ≡ framed size letter s → r ≡ b → framed l.size l.code s ≡ b
  framed-by e f promise test = ap₂ (λ (n t : ℕ). framed n t s) (sym e) (sym f) ∙ sym promise ∙ test

  pub framed-long : framed l.size l.code s ≡ true → length s ≡ l.size
  framed-long h = eqb-true _ _ (both _ (eqb (get_or s 0 0) l.code) h).0

  pub framed-judged : framed l.size l.code s ≡ true → {found : Option ℕ} {answer : Answer}
      → found ≡ first_bad_place l.fields s → answer ≡ (bad_at found ⨾ Done) → answer ≡ read_answer l s
  framed-judged h f a =
      a ∙ ap (λ (o : Option ℕ). bad_at o ⨾ Done) f ∙ sym (judged (framed-long h) (eqb-true _ _ (both (eqb (length s) l.size) _ h).1))

  pub bad-field : {at : ℕ} → length s ≡ l.size → get_or s 0 0 ≡ l.code → first_bad_place l.fields s ≡ Some at → read_answer l s ≡ BadField at
  bad-field e t p = judged e t ∙ ap (λ (o : Option ℕ). bad_at o ⨾ Done) p

  pub legal : length s ≡ l.size → get_or s 0 0 ≡ l.code → first_bad_place l.fields s ≡ None → read_answer l s ≡ Done
  legal e t p = judged e t ∙ ap (λ (o : Option ℕ). bad_at o ⨾ Done) p

-- what is refused is not done
not-refused : {r : Refusal} → Err r ≡ Done → ⊥
not-refused h = cc

-- a done writer has room
pub room : (l : Layout) (m buffer : List ℕ) → write_answer l m buffer ≡ Done → l.size ≤ length buffer
unfolding write_answer
room l m buffer e = go (first_bad_place l.fields m) (ltb (length buffer) l.size) refl e
  where
    go : (o : Option ℕ) (b : Bool) → ltb (length buffer) l.size ≡ b → (bad_at o ⨾ b ⇒ NoRoom ⨾ Done) ≡ Done → l.size ≤ length buffer
    go None false f e = ltb-false (length buffer) l.size f
    go None true f e = let z : ◌≡◌ {A = ℕ} 0 1 = cc in absurd (omega arith)
    go (Some at) b f e = let z : ◌≡◌ {A = ℕ} 0 1 = cc in absurd (omega arith)

-- a writer of the first n bytes of what was spelled, n as the code has it, by what the code found
module _ (l : Layout) (spelled buffer : List ℕ) {n : ℕ} (e : n ≡ l.size) {found : Option ℕ}
    (f : found ≡ first_bad_place l.fields (take n spelled)) where
  there : found ≡ first_bad_place l.fields (take l.size spelled)
  there = rw e at f

  fine : {answer : Answer} → answer ≡ (bad_at found ⨾ Done) → answer ≡ Done → None ≡ first_bad_place l.fields (take l.size spelled)
  fine {answer} a d = go found there (sym d ∙ a)
    where
      go : (o : Option ℕ) → o ≡ first_bad_place l.fields (take l.size spelled) → Done ≡ (bad_at o ⨾ Done) → None ≡ first_bad_place l.fields (take l.size spelled)
      go None h k = h
      go (Some at) h k = absurd (not-refused (sym k))

  pub sent : {answer : Answer} → answer ≡ (bad_at found ⨾ Done) → answer ≡ Done → n ≤ length buffer → l.size ≤ length spelled
      → {exit : List ℕ} → exit ≡ put buffer 0 (take n spelled)
      → (Done ≡ write_answer l (take l.size spelled) buffer) × (exit ≡ buffer_after l (take l.size spelled) buffer)
  unfolding write_answer buffer_after if_done is_done
  sent a d h whole {exit} x =
      let long : length (take l.size spelled) ≡ l.size = length-take-le l.size spelled whole in
      let y : exit ≡ take l.size spelled ++ drop l.size buffer =
      x ∙ ap (λ (m : ℕ). put buffer 0 (take m spelled)) e ∙ rw (zero-add, long) in
      rw (← fine a d, le-ltb (length buffer) l.size (omega (arith, e, h))) (refl, y)
