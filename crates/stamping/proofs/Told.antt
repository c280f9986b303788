-- An entry that was made says what it was made of: nothing but its stamp can be wrong of it, and it is read as the message was.
-- Assumes nothing.
use Rattle.std.specs.Option.{option_or}
use Rattle.octets.proofs.Proving.{Bool, List, ◌<◌, ◌^◌, ◌∙◌, ◌∷◌, ◌≡◌, ap, arith, drop, drop_at, drop-cons, eq-eqb, false, get_or, le-ltb, length, lt-ltb, ltb, ne_eqb, refl, sym, take, take_all, take_at, true, ℕ}
use Rattle.std.specs.Prelude.{Option, None}
use Rattle.octets.specs.Bytes.{part, digits, number_of}
use Rattle.octets.proofs.Laws.{length_part, number_digits}
use Rattle.answers.specs.Answer.{Done}
use Rattle.wire.specs.Layout.{Field, unless, bad_place, first_bad_place}
use Rattle.wire.specs.Limits.{stamp_end}
use Rattle.inbound.specs.Inbound.{enter_order_of, replace_order_of, cancel_order_of, modify_order_of}
use Rattle.purge.specs.Purge.{mass_cancel, mass_cancel_of, order_entry_of}
use Rattle.tape.specs.Kinds.{kind_by, kind_of, layout_of}
use Rattle.tape.specs.declared.kinds.Kind.{Kind}
use Rattle.tape.specs.Entries.{well_formed, bad_place_of, entry_answer, stamp_of, message_in, enter_of, replace_of, cancel_of, modify_of, purge_of, blocking_of}
use Rattle.stamping.specs.Stamping.{heard, kind_for, body_for, entry_for}
use Rattle.stamping.specs.Told.{Judged, TellsClient, TellsPurge, Told}
use Rattle.stamping.proofs.Puts.{front_long}
use Rattle.stamping.proofs.Which.{goes, host-long, purge-long, mass-long, firm-and-symbol, firm-alone}

-- ---- judged

module _ (purge : Bool) (stamp : ℕ) (m : List ℕ) where
  abbrev made : List ℕ
  made = entry_for purge stamp m

  stamp-there : stamp < 256 ^ 8 → number_of (part made 1 8) ≡ stamp
  unfolding entry_for digits number_of
  stamp-there small = number_digits 8 stamp small

  module _ (done : heard purge m ≡ Done) where
    kind-is : kind_of made ≡ (goes purge m done).kind
    unfolding kind_of entry_for
    kind-is = (goes purge m done).known

    long : length made ≡ (layout_of (kind_of made)).size
    unfolding entry_for
    long = front_long (kind_for purge (get_or m 0 0)) stamp (body_for purge m) ∙ (goes purge m done).long ∙ ap (λ (k : Kind). (layout_of k).size) (sym kind-is)

    well-formed : well_formed made ≡ true
    unfolding well_formed entry_for
    well-formed =
        let size = (layout_of (kind_of made)).size in
        rw (ne_eqb size 0 (λ z. omega (arith, z, long)), eq-eqb (length made) size long)

    place_is : bad_place_of made ≡ option_or (unless (ltb (number_of (part made 1 8)) stamp_end) 1) None
    unfolding bad_place_of first_bad_place bad_place
    place_is =
        let w = goes purge m done in
        ap (λ (fs : List Field). first_bad_place fs made) (ap (λ (k : Kind). (layout_of k).fields) kind-is ∙ w.fields)
        ∙ ap (λ (o : Option ℕ). option_or (unless (ltb (number_of (part made 1 8)) stamp_end) 1) o) (w.clean stamp)

    entry-judged : stamp < 2 ^ 64 → Judged stamp made
    unfolding entry_answer stamp_of
    entry-judged small = record {
      stamped = stamp-there small;
      done = λ h. rw (well-formed, place_is, stamp-there small, lt-ltb stamp stamp_end h);
      bad-stamp = λ h. rw (well-formed, place_is, stamp-there small, le-ltb stamp stamp_end h);
    }

-- ---- told

-- no reader of a message looks at its first byte
carried : {X : Type 0} (f : List ℕ → X) → ((x y : ℕ) (xs : List ℕ) → f (x ∷ xs) ≡ f (y ∷ xs)) → (stamp : ℕ) (m : List ℕ) → heard false m ≡ Done
    → f (message_in (entry_for false stamp m)) ≡ f m
unfolding message_in entry_for kind_for body_for digits
carried f any stamp m done = any _ (get_or m 0 0) (drop 1 m) ∙ ap f (sym (drop-cons m 0 0 (host-long m done)))

tells-client : (stamp : ℕ) (m : List ℕ) → heard false m ≡ Done → TellsClient m (entry_for false stamp m)
unfolding kind_of kind_by entry_for kind_for enter_of replace_of cancel_of modify_of enter_order_of replace_order_of cancel_order_of modify_order_of
tells-client stamp m done = record {
  enters = λ t. (ap kind_by t, carried enter_order_of (λ x y xs. refl) stamp m done);
  replaces = λ t. (ap kind_by t, carried replace_order_of (λ x y xs. refl) stamp m done);
  cancels = λ t. (ap kind_by t, carried cancel_order_of (λ x y xs. refl) stamp m done);
  modifies = λ t. (ap kind_by t, carried modify_order_of (λ x y xs. refl) stamp m done);
}

module _ (stamp : ℕ) (m : List ℕ) (done : heard true m ≡ Done) where
  firm-long : length (part m 5 4) ≡ 4
  firm-long = length_part m 5 4 (omega (arith, purge-long m done))

  lone-firm : (get_or m 0 0 ≡ mass_cancel.code → ⊥) → take 4 (body_for true m) ≡ part m 5 4
  lone-firm other = ap (take 4) (firm-alone m other) ∙ take_all 4 (part m 5 4) (omega (arith, firm-long))

  tells-purge : TellsPurge m (entry_for true stamp m)
  unfolding kind_of kind_by entry_for kind_for digits purge_of blocking_of mass_cancel_of order_entry_of
  tells-purge = record {
    purges = λ t. (
      ap (λ (b : ℕ). kind_by (kind_for true b)) t,
      (
        ap (take 4) (firm-and-symbol m t) ∙ take_at (part m 5 4) (part m 15 8) 4 firm-long,
        ap (λ (l : List ℕ). take 8 (drop 4 l)) (firm-and-symbol m t) ∙ ap (take 8) (drop_at (part m 5 4) (part m 15 8) 4 firm-long)
            ∙ take_all 8 (part m 15 8) (omega (arith, length_part m 15 8 (omega (arith, mass-long m done t)))),
      ),
    );
    disables = λ t. (ap (λ (b : ℕ). kind_by (kind_for true b)) t, lone-firm (λ z. omega (arith, t, z)));
    enables = λ t. (ap (λ (b : ℕ). kind_by (kind_for true b)) t, lone-firm (λ z. omega (arith, t, z)));
  }

pub entries-told : Told
entries-told = record { judged = entry-judged; client = tells-client; purge = tells-purge }
