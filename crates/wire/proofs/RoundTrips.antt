-- The round trips, once over every layout: legal bytes that are read and written back, and values that are written and read back.
-- Assumes nothing.
use Rattle.octets.proofs.Proving.{List, T, ◌++◌, ◌∙◌, ◌≡◌, ◌≤◌, ap, drop, eq-eqb, get_or, le-ltb, length, length-replicate, lit<, ltb, refl, take, take_at, true, ℕ}
use Rattle.std.specs.Prelude.{Option, None, Some}
use Rattle.octets.specs.Choice.{◌⇒◌⨾◌}
use Rattle.octets.specs.Bytes.{zeros}
use Rattle.answers.specs.Answer.{is_done, if_done}
use Rattle.answers.specs.Answer.{Answer}
use Rattle.answers.specs.Answer.{Done, NoRoom}
use Rattle.wire.specs.Layout.{Layout, Values, Fits, FromFields, at_once, reading, read_fields, first_bad_place, spell, well_laid}
use Rattle.wire.specs.Messages.{bad_at◌⨾◌, message_layout, read_answer, legal_or_zeros, write_answer, buffer_after}
use Rattle.wire.specs.Legal.{Bytes}
use Rattle.wire.specs.Faithful.{Faithful}
use Rattle.wire.proofs.Numbered.{well-laid}
use Rattle.wire.proofs.Layouts.{sized-all, length-spelled, values-again, message-again}
use Rattle.wire.proofs.BadPlaces.{no-bad-place}
use Rattle.wire.proofs.Exactly.{Way, malformed, bad, done, way, done-exactly, malformed-exactly, bad-field-exactly, read-place, write-bad-exactly, write-place}

-- a done writer leaves its bytes in front and the rest as it was
pub in-front : (l : Layout) (m buffer : List ℕ) → write_answer l m buffer ≡ Done → buffer_after l m buffer ≡ m ++ drop l.size buffer
unfolding buffer_after if_done is_done
in-front l m buffer e = rw e

-- what the writer's answer says of bytes that have the message's length and type
module _ (l : Layout) (m buffer : List ℕ) (long : length m ≡ l.size) (typed : get_or m 0 0 ≡ l.code) where
  pub sent-legal : write_answer l m buffer ≡ Done → read_answer l m ≡ Done
  unfolding write_answer read_answer
  sent-legal e = rw (eq-eqb (length m) l.size long, eq-eqb (get_or m 0 0) l.code typed) (go (first_bad_place l.fields m) e)
    where
      go : (o : Option ℕ) → (bad_at o ⨾ ltb (length buffer) l.size ⇒ NoRoom ⨾ Done) ≡ Done → (bad_at o ⨾ Done) ≡ Done
      go None e = refl
      go (Some at) e = e

  pub legal-sent : read_answer l m ≡ Done → l.size ≤ length buffer → write_answer l m buffer ≡ Done
  unfolding write_answer
  legal-sent e room =
      rw (no-bad-place l.fields m ((done-exactly l m).0 e).judged, le-ltb (length buffer) l.size room)

module _ (l : Layout) (well : well_laid l ≡ true) where
  same_bytes : (s : List ℕ) → Bytes s → read_answer l s ≡ Done → spell l (read_fields l.fields s) ≡ s
  same_bytes s b e =
      let h = (done-exactly l s).0 e in
      message-again l well s h.long h.typed b

  same-buffer : (s : List ℕ) → Bytes s → read_answer l s ≡ Done → (buffer : List ℕ) → l.size ≤ length buffer
      → (m : List ℕ) → m ≡ s → (write_answer l m buffer ≡ Done) × (buffer_after l m buffer ≡ s ++ drop l.size buffer)
  same-buffer s b e buffer room m same =
      let h = (done-exactly l s).0 e in
      let d : write_answer l s buffer ≡ Done = legal-sent l s buffer h.long h.typed e room in
      rw same (d, in-front l s buffer d)

  -- values that were written
  module _ (v : Values l.fields) (fits : Fits l.fields v) (buffer : List ℕ) (e : write_answer l (spell l v) buffer ≡ Done) where
    front : take l.size (buffer_after l (spell l v) buffer) ≡ spell l v
    front =
        ap (take l.size) (in-front l (spell l v) buffer e)
        ∙ take_at (spell l v) (drop l.size buffer) l.size (length-spelled l well v (sized-all l.fields v fits))

    front-legal : read_answer l (take l.size (buffer_after l (spell l v) buffer)) ≡ Done
    unfolding spell
    front-legal = ap (read_answer l) front ∙ sent-legal l (spell l v) buffer (length-spelled l well v (sized-all l.fields v fits)) refl e

    front-values : read_fields l.fields (take l.size (buffer_after l (spell l v) buffer)) ≡ v
    front-values = ap (read_fields l.fields) front ∙ values-again l well v fits

  -- a struct that is its layout's values, one by one
  module _ {X : Type 0} (made : FromFields l.fields X) (values : X → Values l.fields)
      (whole : (m : X) → at_once l.fields made (values m) ≡ m) (apart : (v : Values l.fields) → values (at_once l.fields made v) ≡ v) where
    spelled : (s : List ℕ) → spell l (values (reading l.fields s made)) ≡ spell l (read_fields l.fields s)
    spelled s = ap (spell l) (apart (read_fields l.fields s))

    pub trips : Faithful l (λ (s : List ℕ). reading l.fields s made) (λ (m : X). spell l (values m)) values
    trips = record {
      same_bytes = λ s b e. spelled s ∙ same_bytes s b e;
      same-buffer = λ s b e buffer room. same-buffer s b e buffer room _ (spelled s ∙ same_bytes s b e);
      same-fields = λ m fits buffer e. (
        front-legal (values m) fits buffer e,
        ap (at_once l.fields made) (front-values (values m) fits buffer e) ∙ whole m,
      );
      done = done-exactly l;
      malformed = malformed-exactly l;
      bad-field = λ s at. bad-field-exactly l s well at;
      place-0 = λ s. read-place l s well;
      write-bad-field = λ m buffer at. write-bad-exactly l well (spell l (values m)) buffer at;
      write-place-0 = λ m buffer. write-place l well (spell l (values m)) buffer;
    }

-- message k, whose struct is made of its values and taken apart into them
pub faithful : (k : ℕ) → T (ltb k 16) → {X : Type 0} (made : FromFields (message_layout k).fields X) (values : X → Values (message_layout k).fields)
    → ((m : X) → at_once (message_layout k).fields made (values m) ≡ m)
    → ((v : Values (message_layout k).fields) → values (at_once (message_layout k).fields made v) ≡ v)
    → Faithful (message_layout k) (λ (s : List ℕ). reading (message_layout k).fields s made) (λ (m : X). spell (message_layout k) (values m)) values
faithful k h made values whole apart = trips (message_layout k) (well-laid k (lit< h)).0 made values whole apart

-- the bytes that a reader takes its fields from are as many as its message has, legal or not
legal-long : (l : Layout) (s : List ℕ) → length (legal_or_zeros l s) ≡ l.size
unfolding legal_or_zeros if_done is_done
legal-long l s = go (way l s)
  where
    go : Way l s → length (legal_or_zeros l s) ≡ l.size
    go (malformed e h) = rw e (length-replicate l.size 0)
    go (bad at e h t) = rw e (length-replicate l.size 0)
    go (done e h) = rw e h.long

module _ (l : Layout) (s : List ℕ) {answer : Answer} {r : List ℕ} (judged : answer ≡ read_answer l s) (kept : r ≡ if_done answer s (zeros l.size)) where
  pub kept-is : r ≡ legal_or_zeros l s
  unfolding legal_or_zeros
  kept-is = kept ∙ ap (λ (a : Answer). if_done a s (zeros l.size)) judged

  pub kept-long : length r ≡ l.size
  kept-long = ap length kept-is ∙ legal-long l s
