-- What w, d and n do: a w's order is the first of its firm and symbol that is live and not late, and dead afterwards; a d or an n moves one bit. Assumes
-- nothing.
use Rattle.octets.proofs.Proving.{Bool, List, [], ◌&&◌, ◌<◌, ◌∙◌, ◌≡◌, ◌≢◌, ◌≤◌, ◌⊎◌, ap, arith, dec_lt, false, false≢true, guard, inl, inr, le-ltb, length, lt-leb, not, not-false, refl, subst, suc, sym, true, ℕ}
use Rattle.std.specs.Prelude.{None, Option, Some}
use Rattle.octets.specs.Choice.{count_below}
use Rattle.octets.specs.Bits.{bit_of}
use Rattle.octets.specs.Bytes.{same}
use Rattle.octets.proofs.Below.{both, same_true}
use Rattle.octets.proofs.Counted.{count-fewer, count-some, count-zero}
use Rattle.answers.specs.Answer.{is_done}
use Rattle.wire.specs.Letters.{dead}
use Rattle.header.specs.Firms.{is_blank, is_listed, firm_place, blocked_with}
use Rattle.header.proofs.Blocked.{blank-unlisted, blocked-other, blocked-own, place-listed}
use Rattle.orders.specs.Order.{order_of, no_order, is_live, is_used, ◌is◌, killed, with_flags}
use Rattle.orders.specs.Wanted.{meets, is_wanted}
use Rattle.orders.specs.declared.wanted.Wanted.{Wanted}
use Rattle.orders.specs.declared.flags.Flag.TheVariants.{Late}
use Rattle.orders.proofs.Wanting.{wanted-live}
use Rattle.table.specs.Table.{header, used_in, record_bytes, order_at, order_from, first_such, sound}
use Rattle.table.proofs.Soundness.{of-sound}
use Rattle.table.proofs.Finding.{such-found, such-none}
use Rattle.tape.specs.Kinds.{kind_of}
use Rattle.tape.specs.Entries.{entry_answer, names_order, stamp_of, purges, purge_of, blocking_of}
use Rattle.tape.proofs.Formed.{purges-kind, purge-long}
use Rattle.rules.specs.Plan.{answer_of, plan_of, ignored, refused, changing, blocking}
use Rattle.rules.specs.Replace.{canceled_whole}
use Rattle.risk.specs.Listed.{of_listed}
use Rattle.risk.specs.Purge.{wanted_by, purge_rule}
use Rattle.risk.specs.Blocking.{blocking_rule}
use Rattle.notices.specs.Notices.{message, notice_bytes}
use Rattle.rules.proofs.Refused.{refused-answer}
use Rattle.host.specs.Step.{Books, World, Outcome, named_place, decide_by, decide, no_record_free, no_reference_left, within_limits, comes_to, no_room, blocked_after, header_after as header_with, settle, carried_out, offer, step, books_after, world_after}
use Rattle.host.proofs.Offers.{judged-good}
use Rattle.laws.specs.Cancels.{ReachesRules}
use Rattle.laws.specs.Purges.{orders_for, PurgesOne, BlocksOne}
use Rattle.laws.proofs.Types.{Answer, Done, Ignored, UnlistedFirm, Blocked, Order, Header, Decision, Purges, Disables, Enables, Purge}
use Rattle.laws.proofs.Shapes.{ended-dead}
use Rattle.laws.proofs.Given.{sane-from, from_is, live-there, none-unused}
use Rattle.laws.proofs.Comes.{decided-by}
use Rattle.laws.proofs.Sounds.{S, P, p, keeps}
use Rattle.laws.proofs.Records.{Face, left, written, left-header, left-used, changed-face, earlier-face, other-record, same-records}
use Rattle.laws.proofs.Steps.{Does, done-does, either}

-- ---- an order that is wanted

-- has the firm
wanted-firm : (e : Purge) (o : Order) → is_wanted (wanted_by e) o ≡ true → o.details.kept.firm ≡ e.firm
unfolding is_wanted wanted_by
wanted-firm e o h =
    let met = meets e.firm (wanted_by e).symbol o in
    by (wanted_by e).symbol (both (not (o is Late)) met (both (is_live o) (not (o is Late) && met) h).1).1
  where
    has : Bool
    has = same o.details.kept.firm e.firm

    by : (symbol : Option (List ℕ)) → meets e.firm symbol o ≡ true → o.details.kept.firm ≡ e.firm
    by None m = same_true o.details.kept.firm e.firm m
    by (Some symbol) m = same_true o.details.kept.firm e.firm (both has (same o.details.kept.stock symbol) m).0

-- and what is dead is not
dead-unwanted : (w : Wanted) (o : Order) → o.state ≡ dead → is_wanted w o ≡ false
unfolding is_wanted is_live
dead-unwanted w o end = rw end

-- ---- a w, of any books

module _ (books : Books) (s : List ℕ) (ok : sound books.table ≡ true) (legal : entry_answer s ≡ Done) (is-w : purges s ≡ true) where
  abbrev t : List ℕ
  t = books.table

  abbrev e : Purge
  e = purge_of s

  abbrev h : Header
  h = header t

  abbrev wanted : Order → Bool
  wanted = is_wanted (wanted_by e)

  abbrev at : ℕ
  at = named_place t s

  abbrev o : Order
  o = order_from t at

  place_is : at ≡ first_such t wanted
  unfolding named_place names_order
  place_is =
      let long = purge-long s (judged-good s legal).0 refl is-w in
      rw (lt-leb 23 (length s) (omega (arith, long)), is-w)

  decided : decide books s ≡ purge_rule h o e
  unfolding decide_by
  decided = decided-by books s (of-sound t ok) legal Purges (purges-kind s is-w)

  -- the order that it names is one of those
  pub its-order : is_live o ≡ true → wanted (order_at t at) ≡ true
  its-order alive =
      let there : first_such t wanted < used_in t = subst (λ (i : ℕ). i < used_in t) place_is (live-there t at alive) in
      ap (λ (i : ℕ). wanted (order_at t i)) place_is ∙ (such-found t wanted there).holds

  -- and there is one just where any is
  some-live : 0 < orders_for e t → is_live o ≡ true
  unfolding orders_for
  some-live some = elim (dec_lt (first_such t wanted) (used_in t)) [
    | yes l ↦
        ap is_live (from_is t at (subst (λ (i : ℕ). i < used_in t) (sym place_is) l))
        ∙ wanted-live (wanted_by e) (order_at t at) (ap (λ (i : ℕ). wanted (order_at t i)) place_is ∙ (such-found t wanted l).holds)
    | no g ↦ absurd (omega (arith, some, count-zero (λ i. wanted (order_at t i)) (used_in t) (such-none t wanted (omega arith))))
  ]

  none-live : orders_for e t ≡ 0 → is_live o ≡ false
  unfolding orders_for
  none-live none = by (is_live o) refl
    where
      by : (b : Bool) → is_live o ≡ b → b ≡ false
      by true alive = absurd (omega (arith, none, count-some (λ i. wanted (order_at t i)) (used_in t) at (live-there t at alive) (its-order alive)))
      by false _ = refl

  module _ (in-time : h.last ≤ stamp_of s) where
    pub comes-unlisted : is_listed h e.firm ≡ false → comes_to books s ≡ refused UnlistedFirm
    unfolding comes_to within_limits purge_rule of_listed refused is_done
    comes-unlisted un = rw (legal, le-ltb _ _ in-time, decided, un)

    module _ (listed : is_listed h e.firm ≡ true) where
      pub comes-ignored : orders_for e t ≡ 0 → comes_to books s ≡ ignored
      unfolding comes_to within_limits purge_rule of_listed refused is_done
      comes-ignored none = rw (legal, le-ltb _ _ in-time, decided, listed, none-live none)

      pub comes-canceled : 0 < orders_for e t → comes_to books s ≡ canceled_whole o
      unfolding comes_to within_limits no_record_free no_reference_left purge_rule of_listed canceled_whole changing is_done
      comes-canceled some = rw (legal, le-ltb _ _ in-time, decided, listed, some-live some, none-unused)

  -- ---- what is done

  module _ (done : is_done (answer_of (comes_to books s)) ≡ true) where
    abbrev end : List ℕ
    end = left books s ok done

    record Cancels : Type 0 where
      alive : is_live o ≡ true
      plans : decide books s ≡ canceled_whole o

    cancels : Cancels
    unfolding purge_rule of_listed refused is_done
    cancels = by (ap (λ (d : Decision). is_done (answer_of d)) (sym ((P books s ok done).is ∙ decided)) ∙ done)
      where
        From : Decision → Type 0
        From d = is_done (answer_of d) ≡ true → Cancels

        by : is_done (answer_of (purge_rule h o e)) ≡ true → Cancels
        by = guard From (not (is_listed h e.firm)) (λ _ d. absurd (false≢true d)) λ listed.
            guard From (not (is_live o)) (λ _ d. absurd (false≢true d)) λ heard _.
            record { alive = not-false _ heard; plans = decided ∙ rw (not-false (is_listed h e.firm) listed, not-false (is_live o) heard) }

    there : at < h.used
    there = omega (arith, live-there t at cancels.alive, (S books s ok done).used)

    added_none : (p books s ok done).added ≡ no_order
    unfolding canceled_whole changing
    added_none = ap (λ (d : Decision). (plan_of d).added) cancels.plans

    changed-is : (p books s ok done).changed ≡ killed o
    unfolding canceled_whole changing
    changed-is = ap (λ (d : Decision). (plan_of d).changed) cancels.plans

    killed-dead : (killed o).state ≡ dead
    unfolding with_flags
    killed-dead =
        let sane = sane-from t (S books s ok done) at in
        ended-dead o cancels.alive (sane.lives cancels.alive) sane.shaped o.flags

    now-dead : (order_at end at).state ≡ dead
    unfolding is_used
    now-dead =
        let used : is_used (p books s ok done).changed ≡ true = ap is_used changed-is ∙ rw killed-dead in
        ap (λ (f : Face). f.state) (earlier-face books s ok done at there ∙ changed-face books s ok done used)
        ∙ ap (λ (q : Order). q.state) changed-is ∙ killed-dead

    same-used : (header end).used ≡ h.used
    same-used = left-used books s ok done ∙ rw (added_none, none-unused) (omega arith)

    end-sound : sound end ≡ true
    end-sound = ap sound (sym (written books s ok done)) ∙ keeps books s ok done

    same-order : (i : ℕ) → i < h.used → i ≢ at → order_at end i ≡ order_at t i
    unfolding order_at
    same-order i l apart = ap order_of (other-record books s ok done i l apart)

    pub fewer : orders_for e t ≡ suc (orders_for e end)
    unfolding orders_for
    fewer =
        let one = of-sound end end-sound in
        let same : used_in end ≡ used_in t = omega (arith, one.used, same-used, (S books s ok done).used) in
        count-fewer (λ i. wanted (order_at t i)) (λ i. wanted (order_at end i)) (used_in t) at (live-there t at cancels.alive) (its-order cancels.alive)
        (dead-unwanted (wanted_by e) (order_at end at) now-dead)
        (λ k l apart. ap wanted (sym (same-order k (omega (arith, l, (S books s ok done).used)) apart)))
        ∙ ap (λ (n : ℕ). suc (count_below n (λ i. wanted (order_at end i)))) (sym same)

    pub other-firm : (i : ℕ) → i < h.used → (order_at t i).details.kept.firm ≢ e.firm → record_bytes end i ≡ record_bytes t i
    other-firm i l other =
        other-record books s ok done i l
        (λ q. other (ap (λ (j : ℕ). (order_at t j).details.kept.firm) q ∙ wanted-firm e (order_at t at) (its-order cancels.alive)))

    pub same_bits : (header end).blocked ≡ h.blocked
    unfolding header_with canceled_whole changing
    same_bits = ap (λ (q : Header). q.blocked) (left-header books s ok done) ∙ ap (λ (d : Decision). blocked_after h (plan_of d).begins) cancels.plans

-- ---- a d or an n, of any books

module _ (books : Books) (s : List ℕ) (on : Bool) (ok : sound books.table ≡ true) (rule : decide books s ≡ blocking_rule (header books.table) (blocking_of s) on)
  where
    abbrev firm : List ℕ
    firm = (blocking_of s).firm

    abbrev h₂ : Header
    h₂ = header books.table

    pub blocks-unlisted : entry_answer s ≡ Done → h₂.last ≤ stamp_of s → is_listed h₂ firm ≡ false → comes_to books s ≡ refused UnlistedFirm
    unfolding comes_to within_limits blocking_rule of_listed refused is_done
    blocks-unlisted legal in-time un = rw (legal, le-ltb _ _ in-time, rule, un)

    module _ (done : is_done (answer_of (comes_to books s)) ≡ true) where
      record Moves : Type 0 where
        listed : is_listed h₂ firm ≡ true
        plans : decide books s ≡ blocking (firm_place h₂ firm) on

      moves : Moves
      unfolding blocking_rule of_listed refused is_done
      moves = by (ap (λ (d : Decision). is_done (answer_of d)) (sym ((P books s ok done).is ∙ rule)) ∙ done)
        where
          From : Decision → Type 0
          From d = is_done (answer_of d) ≡ true → Moves

          by : is_done (answer_of (blocking_rule h₂ (blocking_of s) on)) ≡ true → Moves
          by = guard From (not (is_listed h₂ firm)) (λ _ d. absurd (false≢true d)) λ listed _.
              record { listed = not-false _ listed; plans = rule ∙ rw (not-false (is_listed h₂ firm) listed) }

      pub no-order : (i : ℕ) → i < h₂.used → record_bytes (left books s ok done) i ≡ record_bytes books.table i
      unfolding blocking
      no-order = same-records books s ok done (ap (λ (d : Decision). (plan_of d).changed) moves.plans)

      bits_are : (header (left books s ok done)).blocked ≡ blocked_with h₂ (firm_place h₂ firm) on
      unfolding header_with blocking
      bits_are = ap (λ (q : Header). q.blocked) (left-header books s ok done) ∙ ap (λ (d : Decision). blocked_after h₂ (plan_of d).begins) moves.plans

      pub others-stay : (k : ℕ) → k ≢ firm_place h₂ firm → bit_of (header (left books s ok done)).blocked k ≡ bit_of h₂.blocked k
      others-stay k apart = ap (λ (b : ℕ). bit_of b k) bits_are ∙ blocked-other h₂ (firm_place h₂ firm) on k apart

      pub own_is : bit_of (header (left books s ok done)).blocked (firm_place h₂ firm) ≡ on
      own_is =
          ap (λ (b : ℕ). bit_of b (firm_place h₂ firm)) bits_are
          ∙ blocked-own h₂ (firm_place h₂ firm) on (place-listed h₂ firm moves.listed) (S books s ok done).head.most-firms

      pub says_nothing : message (stamp_of s) (plan_of (comes_to books s)) ≡ []
      unfolding message notice_bytes blocking
      says_nothing = ap (λ (d : Decision). message (stamp_of s) (plan_of d)) ((P books s ok done).is ∙ moves.plans)

-- ---- any step

module _ (w : World) (s : List ℕ) where
  abbrev t₃ : List ℕ
  t₃ = w.books.table

  abbrev t' : List ℕ
  t' = (step w s).world.books.table

  untouched : (step w s).world ≡ w → t' ≡ t₃
  untouched e = ap (λ (x : World). x.books.table) e

  written_is : (d : Does w s (step w s)) → t' ≡ left w.books s d.ready.table d.comes-done
  unfolding world_after books_after
  written_is d = ap (λ (x : World). x.books.table) d.world ∙ written w.books s d.ready.table d.comes-done

  -- what the rules come to without the ring is answered
  answers-as : (ready : ReachesRules w s) (a : Answer) → comes_to w.books s ≡ refused a → is_done a ≡ false → (step w s).answer ≡ a
  unfolding step offer settle
  answers-as h a comes other = rw (h.ready.table, h.ready.ring, h.ready.stocks, comes, refused-answer a, other)

  -- and what has a plan is done, or has no room
  done-or-blocked : (ready : ReachesRules w s) → answer_of (comes_to w.books s) ≡ Done → ((step w s).answer ≡ Done) ⊎ ((step w s).answer ≡ Blocked)
  unfolding step offer settle carried_out is_done
  done-or-blocked h comes =
      rw (h.ready.table, h.ready.ring, h.ready.stocks, comes)
      (guard (λ (x : Outcome). (x.answer ≡ Done) ⊎ (x.answer ≡ Blocked)) (no_room w (stamp_of s) (plan_of (comes_to w.books s))) (λ _. inr refl) λ _. inl refl)

  -- a sound table lists no blank firm
  unlisted : ReachesRules w s → (firm : List ℕ) → is_blank firm ≡ true → is_listed (header t₃) firm ≡ false
  unlisted h firm = blank-unlisted (header t₃) firm (of-sound t₃ h.ready.table).head.shaped

  pub purges-one : purges s ≡ true → PurgesOne w s
  unfolding is_done canceled_whole changing
  purges-one is-w =
      record {
        other-firms = λ i l other. either w s (λ e. ap (λ (u : List ℕ). record_bytes u i) (untouched e))
            λ _ d. ap (λ (u : List ℕ). record_bytes u i) (written_is d) ∙ other-firm w.books s d.ready.table (legal d) is-w d.comes-done i l other;
        bits = either w s (λ e. ap (λ (u : List ℕ). (header u).blocked) (untouched e))
            λ _ d. ap (λ (u : List ℕ). (header u).blocked) (written_is d) ∙ same_bits w.books s d.ready.table (legal d) is-w d.comes-done;
        one_fewer = λ done.
            let d = done-does w s (ap is_done done) in
            fewer w.books s d.ready.table (legal d) is-w d.comes-done ∙ ap (λ (u : List ℕ). suc (orders_for (purge_of s) u)) (sym (written_is d));
        some_left = λ h listed some.
            done-or-blocked h (ap answer_of (comes-canceled w.books s h.ready.table h.legal is-w h.in-time listed some));
        none_left = λ h listed none. answers-as h Ignored (comes-ignored w.books s h.ready.table h.legal is-w h.in-time listed none) refl;
        blank-firm = λ h blank.
            answers-as h UnlistedFirm (comes-unlisted w.books s h.ready.table h.legal is-w h.in-time (unlisted h (purge_of s).firm blank)) refl;
      }
    where
      legal : Does w s (step w s) → entry_answer s ≡ Done
      legal d = (P w.books s d.ready.table d.comes-done).legal

  blocks-one : (on : Bool) → decide w.books s ≡ blocking_rule (header t₃) (blocking_of s) on → BlocksOne w s on
  unfolding is_done
  blocks-one on rule =
      record {
        orders = λ i l. either w s (λ e. ap (λ (u : List ℕ). record_bytes u i) (untouched e))
            λ _ d. ap (λ (u : List ℕ). record_bytes u i) (written_is d) ∙ no-order w.books s on d.ready.table rule d.comes-done i l;
        other-bits = λ k apart. either w s (λ e. ap (λ (u : List ℕ). bit_of (header u).blocked k) (untouched e))
            λ _ d. ap (λ (u : List ℕ). bit_of (header u).blocked k) (written_is d) ∙ others-stay w.books s on d.ready.table rule d.comes-done k apart;
        sends-nothing = λ done. let d = done-does w s (ap is_done done) in says_nothing w.books s on d.ready.table rule d.comes-done;
        own-bit = λ done.
            let d = done-does w s (ap is_done done) in
            ap (λ (u : List ℕ). bit_of (header u).blocked (firm_place (header t₃) (blocking_of s).firm)) (written_is d)
            ∙ own_is w.books s on d.ready.table rule d.comes-done;
        blank-firm = λ h blank.
            answers-as h UnlistedFirm (blocks-unlisted w.books s on h.ready.table rule h.legal h.in-time (unlisted h (blocking_of s).firm blank)) refl;
      }

  pub disables-one : kind_of s ≡ Disables → BlocksOne w s true
  unfolding decide decide_by
  disables-one d = blocks-one true (rw d)

  pub enables-one : kind_of s ≡ Enables → BlocksOne w s false
  unfolding decide decide_by
  enables-one n = blocks-one false (rw n)
