-- What an offer comes to, and so what the code that stands there leaves. Assumes nothing.
use Rattle.std.specs.Prelude.{Err, Option, None, Some}
use Rattle.octets.proofs.Proving.{Bool, List, ◌<◌, ◌∙◌, ◌≡◌, ◌≤◌, ap, arith, false, le-ltb, length, length-append, lt-ltb, not, refl, sym, take, take_at, true, ℕ}
use Rattle.octets.specs.Choice.{◌⇒◌⨾◌}
use Rattle.answers.specs.Answer.{is_done}
use Rattle.wire.specs.Messages.{bad_at◌⨾◌, in_eighty}
use Rattle.outbox.specs.Outbox.{free_bytes, ring_with, marks_with}
use Rattle.table.specs.Table.{header}
use Rattle.tape.specs.Entries.{well_formed, bad_place_of, entry_answer, stamp_of}
use Rattle.rules.specs.Plan.{refused}
use Rattle.notices.specs.Notices.{message, sent}
use Rattle.notices.specs.declared.Sent.{Sent}
use Rattle.host.specs.Types.{Answer, Refusal, Done, Malformed, TooEarly, Blocked, Decision, Plan, Marks}
use Rattle.host.specs.Step.{World, named_place, decide, within_limits, comes_to, committed, set_if, books_after, world_after, unchanged, no_room, carried_out, settle, offer, Leaves}

pub stays : (w : World) (a : Answer) → Leaves (unchanged w a) a w.marks w.books.table w.ring w.books.stocks
stays w a = record { answered = refl; marked = refl; tabled = refl; ringed = refl; listed = refl }

-- what judging lets pass is well formed, and no byte of it is bad
pub judged-good : (s : List ℕ) → entry_answer s ≡ Done → (well_formed s ≡ true) × (bad_place_of s ≡ None)
unfolding entry_answer
judged-good s legal = by (well_formed s) (bad_place_of s) refl refl legal
  where
    by : (f : Bool) (o : Option ℕ) → well_formed s ≡ f → bad_place_of s ≡ o → (not f ⇒ Malformed ⨾ bad_at o ⨾ Done) ≡ Done
        → (well_formed s ≡ true) × (bad_place_of s ≡ None)
    by true None f l e = (f, l)
    by false o f h e = absurd (let z : ◌≡◌ {A = ℕ} 0 1 = cc in omega arith)
    by true (Some at) f l e = absurd (let z : ◌≡◌ {A = ℕ} 0 1 = cc in omega arith)

module _ (w : World) (s : List ℕ) where
  pub refused-leaves : {r : Refusal} → entry_answer s ≡ Err r → Leaves (offer w s) (Err r) w.marks w.books.table w.ring w.books.stocks
  unfolding offer comes_to settle refused is_done
  refused-leaves {r} is = rw is (stays w (Err r))

  module _ (legal : entry_answer s ≡ Done) where
    pub early-leaves : stamp_of s < (header w.books.table).last → Leaves (offer w s) TooEarly w.marks w.books.table w.ring w.books.stocks
    unfolding offer comes_to settle refused is_done
    early-leaves h = rw (legal, lt-ltb _ _ h) (stays w TooEarly)

    pub settled-leaves : {place stamp : ℕ} {d : Decision} {a : Answer} {m : Marks} {t r l : List ℕ} → (header w.books.table).last ≤ stamp_of s
        → place ≡ named_place w.books.table s → stamp ≡ stamp_of s → d ≡ within_limits w.books.table (decide w.books s)
        → Leaves (settle w place stamp d) a m t r l → Leaves (offer w s) a m t r l
    unfolding offer comes_to is_done
    settled-leaves h at on is left = rw (legal, le-ltb _ _ h, ← at, ← on, ← is) left

-- ---- a plan carried out

module _ (m : List ℕ) {s : Sent} (is : s ≡ sent m) where
  long : s.len ≡ length m
  unfolding sent
  long = ap (λ (q : Sent). q.len) is

  spelled : s.bytes ≡ in_eighty m
  unfolding sent
  spelled = ap (λ (q : Sent). q.bytes) is

  front : take s.len s.bytes ≡ m
  unfolding in_eighty
  front = ap (take s.len) spelled ∙ take_at m _ s.len (sym long)

  -- the bytes reach as far
  pub fits : s.len ≤ length s.bytes
  unfolding in_eighty
  fits = omega (arith, ap length spelled ∙ length-append m _, long)

module _ (w : World) (place stamp : ℕ) (p : Plan) {s : Sent} (is : s ≡ sent (message stamp p)) where
  pub blocked-leaves : free_bytes (length w.ring) w.marks < s.len → Leaves (carried_out w place stamp p) Blocked w.marks w.books.table w.ring w.books.stocks
  unfolding carried_out no_room
  blocked-leaves h = rw (← long (message stamp p) is, lt-ltb _ _ h) (stays w Blocked)

  pub done-leaves : {m : Marks} {t r l : List ℕ} → s.len ≤ free_bytes (length w.ring) w.marks → m ≡ marks_with w.marks s.len
      → t ≡ committed w.books.table place stamp p → r ≡ ring_with w.ring w.marks (take s.len s.bytes)
      → l ≡ set_if w.books.stocks p.stock → Leaves (carried_out w place stamp p) Done m t r l
  unfolding carried_out no_room world_after books_after
  done-leaves h em et er el =
      rw (← long (message stamp p) is, le-ltb _ _ h)
      (record { answered = refl; marked = em; tabled = et; ringed = er ∙ ap (ring_with w.ring w.marks) (front (message stamp p) is); listed = el })

-- what an offer leaves, for the functions that come to it
pub ruleset leaves = (judged-good, refused-leaves, early-leaves, settled-leaves)
