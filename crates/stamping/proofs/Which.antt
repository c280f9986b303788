-- What a message is that was let through: one of the seven, legal, and with a kind of entry in which all but the stamp is as it should be.
-- Assumes nothing.
use Rattle.octets.proofs.Proving.{Bool, List, List·Memᴰ·cases-cons, List·Memᴰ·head, List·Memᴰ·not-nil, List·Memᴰ·tail, [], ◌++◌, ◌+◌, ◌-◌, ◌∙◌, ◌∷◌, ◌≡◌, ◌≤◌, ap, arith, drop, drop-drop, eq-eqb, eqb, false, get_or, length, length-append, length-drop, map, ne_eqb, refl, subst, suc, sym, take, take_all, true, zero, ℕ, ⊎_elim}
use Rattle.std.specs.Prelude.{None, Some}
use Rattle.octets.specs.Choice.{pick}
use Rattle.octets.specs.Bytes.{part, digits}
use Rattle.octets.proofs.Laws.{length_part}
use Rattle.answers.specs.Answer.{Done}
use Rattle.wire.specs.Layout.{Layout, Field, shifted, stamp_at, text_at, bad_place, first_bad_place, layout_for, unbroken, well_laid}
use Rattle.wire.specs.Legal.{Obeys, AllObey, Legal}
use Rattle.wire.specs.Messages.{enter_order, replace_order, cancel_order, modify_order}
use Rattle.wire.proofs.Layouts.{first-at, rest-unbroken, whole}
use Rattle.wire.proofs.BadPlaces.{no-bad-place}
use Rattle.wire.proofs.Exactly.{done-exactly}
use Rattle.purge.specs.Purge.{mass_cancel, order_entry, disable, enable}
use Rattle.tape.specs.Kinds.{stamped, kind_by, layout_of}
use Rattle.tape.specs.declared.kinds.Kind.{Kind}
use Rattle.tape.specs.declared.kinds.Kind.TheVariants.{Enters, Replaces, Cancels, Modifies, Purges, Disables, Enables}
use Rattle.stamping.specs.Stamping.{read_as, heard, kind_for, body_for, entry_for}

pub data AtHost (m : List ℕ) : Type 0 where
  entering : Legal enter_order m → AtHost m
  replacing : Legal replace_order m → AtHost m
  canceling : Legal cancel_order m → AtHost m
  modifying : Legal modify_order m → AtHost m

pub data AtPurge (m : List ℕ) : Type 0 where
  purging : Legal mass_cancel m → AtPurge m
  disabling : Legal disable m → AtPurge m
  enabling : Legal enable m → AtPurge m

no_more : {A : Type 0} (m : List ℕ) → read_as None m ≡ Done → A
no_more m h = let z : ◌≡◌ {A = ℕ} 0 1 = cc in absurd (omega arith)

pub at-purge : (m : List ℕ) → heard true m ≡ Done → AtPurge m
unfolding heard layout_for
at-purge m h = go (eqb mass_cancel.code (get_or m 0 0)) (eqb disable.code (get_or m 0 0)) (eqb enable.code (get_or m 0 0)) h
  where
    go : (a b c : Bool) → read_as (pick a (Some mass_cancel) (pick b (Some disable) (pick c (Some enable) None))) m ≡ Done → AtPurge m
    go true b c h = purging ((done-exactly mass_cancel m).0 h)
    go false true c h = disabling ((done-exactly disable m).0 h)
    go false false true h = enabling ((done-exactly enable m).0 h)
    go false false false h = no_more m h

pub at-host : (m : List ℕ) → heard false m ≡ Done → AtHost m
unfolding heard layout_for
at-host m h =
    go (eqb enter_order.code (get_or m 0 0)) (eqb replace_order.code (get_or m 0 0)) (eqb cancel_order.code (get_or m 0 0)) (eqb modify_order.code (get_or m 0 0)) h
  where
    go : (a b c d : Bool)
        → read_as (pick a (Some enter_order) (pick b (Some replace_order) (pick c (Some cancel_order) (pick d (Some modify_order) None)))) m ≡ Done
        → AtHost m
    go true b c d h = entering ((done-exactly enter_order m).0 h)
    go false true c d h = replacing ((done-exactly replace_order m).0 h)
    go false false true d h = canceling ((done-exactly cancel_order m).0 h)
    go false false false true h = modifying ((done-exactly modify_order m).0 h)
    go false false false false h = no_more m h

-- ---- how long it is

pub host-long : (m : List ℕ) → heard false m ≡ Done → 1 ≤ length m
host-long m done = by (at-host m done)
  where
    by : AtHost m → 1 ≤ length m
    by (entering h) = omega (arith, h.long)
    by (replacing h) = omega (arith, h.long)
    by (canceling h) = omega (arith, h.long)
    by (modifying h) = omega (arith, h.long)

module _ (m : List ℕ) (done : heard true m ≡ Done) where
  pub purge-long : 15 ≤ length m
  purge-long = by (at-purge m done)
    where
      by : AtPurge m → 15 ≤ length m
      by (purging h) = omega (arith, h.long)
      by (disabling h) = omega (arith, h.long)
      by (enabling h) = omega (arith, h.long)

  pub mass-long : get_or m 0 0 ≡ mass_cancel.code → length m ≡ 25
  mass-long e = by (at-purge m done)
    where
      by : AtPurge m → length m ≡ 25
      by (purging h) = h.long
      by (disabling h) = absurd (omega (arith, e, h.typed))
      by (enabling h) = absurd (omega (arith, e, h.typed))

-- ---- what stands behind the stamp

pub firm-and-symbol : (m : List ℕ) → get_or m 0 0 ≡ mass_cancel.code → body_for true m ≡ part m 5 4 ++ part m 15 8
unfolding body_for
firm-and-symbol m e = rw (eq-eqb (get_or m 0 0) mass_cancel.code e)

pub firm-alone : (m : List ℕ) → (get_or m 0 0 ≡ mass_cancel.code → ⊥) → body_for true m ≡ part m 5 4
unfolding body_for
firm-alone m d = rw (ne_eqb (get_or m 0 0) mass_cancel.code d)

-- as code cuts it off
pub all-but-type : (purge : Bool) (m : List ℕ) → purge ≡ false → take (length m - 1) (drop 1 m) ≡ body_for purge m
unfolding body_for
all-but-type purge m e = rw e (take_all (length m - 1) (drop 1 m) (omega (arith, length-drop 1 m)))

-- ---- a client's message eight bytes further on

module _ (m : List ℕ) (stamp : ℕ) where
  part_shifted : (at n : ℕ) → 1 ≤ at → part (entry_for false stamp m) (at + 8) n ≡ part m at n
  unfolding entry_for kind_for body_for digits
  part_shifted zero n h = absurd (omega arith)
  part_shifted (suc at) n h =
      let e : suc at + 8 ≡ 8 + suc at = omega arith in
      let f : 1 + at ≡ suc at = omega arith in
      ap (λ (k : ℕ). part (entry_for false stamp m) k n) e
      ∙ ap (take n) (sym (drop-drop (suc at) 8 (entry_for false stamp m)) ∙ drop-drop at 1 m ∙ ap (λ (k : ℕ). drop k m) f)

  obey-shifted : (fs : List Field) (at size : ℕ) → 1 ≤ at → unbroken at size fs ≡ true → AllObey fs m → AllObey (map (shifted 8) fs) (entry_for false stamp m)
  obey-shifted [] at size h u all f i = absurd (List·Memᴰ·not-nil i)
  obey-shifted (g ∷ fs) at size h u all f i =
      let there : part (entry_for false stamp m) (g.at + 8) g.width ≡ part m g.at g.width =
      part_shifted g.at g.width (omega (arith, h, first-at g fs at size u)) in
      ⊎_elim
      (λ e.
      subst (λ (x : Field). Obeys x.rule (part (entry_for false stamp m) x.at x.width)) (sym e)
      (subst (Obeys g.rule) (sym there) (all g (List·Memᴰ·head refl))))
      (λ t. obey-shifted fs (at + g.width) size (omega (arith, h)) (rest-unbroken g fs at size u) (λ x j. all x (List·Memᴰ·tail j)) f t)
      (List·Memᴰ·cases-cons i)

-- ---- the kind of its entry

pub record Goes (purge : Bool) (m : List ℕ) : Type 0 where
  pub kind : Kind
  pub known : kind_by (kind_for purge (get_or m 0 0)) ≡ kind
  pub long : 9 + length (body_for purge m) ≡ (layout_of kind).size
  -- the fields behind the stamp, none of which is bad
  pub behind : List Field
  pub fields : (layout_of kind).fields ≡ stamp_at 1 ∷ behind
  pub clean : (stamp : ℕ) → first_bad_place behind (entry_for purge stamp m) ≡ None

client : (m : List ℕ) (l : Layout) (kind : Kind) → layout_of kind ≡ stamped l → kind_by l.code ≡ kind → well_laid l ≡ true → Legal l m → Goes false m
unfolding well_laid kind_for body_for
client m l kind same known well h =
    let size : (layout_of kind).size ≡ l.size + 8 = ap (λ (x : Layout). x.size) same in
    record {
      kind = kind;
      known = ap kind_by h.typed ∙ known;
      long = omega (arith, size, length-drop 1 m, h.long, whole l well);
      behind = map (shifted 8) l.fields;
      fields = ap (λ (x : Layout). x.fields) same;
      clean = λ stamp. no-bad-place (map (shifted 8) l.fields) (entry_for false stamp m) (obey-shifted m stamp l.fields 1 l.size (omega arith) well h.judged);
    }

blocking : (m : List ℕ) (letter : ℕ) (kind : Kind) → Legal (order_entry letter) m → (letter ≡ mass_cancel.code → ⊥) → kind_by (kind_for true letter) ≡ kind
    → (layout_of kind).size ≡ 13 → (layout_of kind).fields ≡ stamp_at 1 ∷ text_at 9 4 ∷ [] → Goes true m
unfolding first_bad_place bad_place
blocking m letter kind h other known size fields = record {
  kind = kind;
  known = ap (λ (b : ℕ). kind_by (kind_for true b)) h.typed ∙ known;
  long = omega (arith, size, ap length (firm-alone m (λ e. other (sym h.typed ∙ e))), length_part m 5 4 (omega (arith, h.long)));
  behind = text_at 9 4 ∷ [];
  fields = fields;
  clean = λ stamp. refl;
}

pub goes : (purge : Bool) (m : List ℕ) → heard purge m ≡ Done → Goes purge m
unfolding well_laid unbroken kind_by kind_for body_for first_bad_place bad_place
goes false m done = by (at-host m done)
  where
    by : AtHost m → Goes false m
    by (entering h) = client m enter_order Enters refl refl refl h
    by (replacing h) = client m replace_order Replaces refl refl refl h
    by (canceling h) = client m cancel_order Cancels refl refl refl h
    by (modifying h) = client m modify_order Modifies refl refl refl h
goes true m done = by (at-purge m done)
  where
    by : AtPurge m → Goes true m
    by (purging h) = record {
      kind = Purges;
      known = ap (λ (b : ℕ). kind_by (kind_for true b)) h.typed;
      long = ap (λ (b : List ℕ). 9 + length b) (firm-and-symbol m h.typed)
          ∙ omega (arith, length-append (part m 5 4) (part m 15 8), length_part m 5 4 (omega (arith, h.long)), length_part m 15 8 (omega (arith, h.long)));
      behind = text_at 9 4 ∷ text_at 13 8 ∷ [];
      fields = refl;
      clean = λ stamp. refl;
    }
    by (disabling h) = blocking m disable.code Disables h (λ e. omega (arith, e)) refl refl refl
    by (enabling h) = blocking m enable.code Enables h (λ e. omega (arith, e)) refl refl refl
