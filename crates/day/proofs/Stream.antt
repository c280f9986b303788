-- The stream is whole messages: every message of a play is legal for its reader, and cutting the bytes by the lengths that the types fix
-- gives exactly the messages back. Assumes nothing.
use Rattle.octets.proofs.Proving.{Bool, List, [], ◌&&◌, ◌++◌, ◌<◌, ◌||◌, ◌∙◌, ◌∷◌, ◌≡◌, ◌≤◌, ap, ap₂, arith, drop_at, eqb, eqb-true, false, get_or, le-ltb, length, length-append, ltb, ltb-true, refl, subst, suc, sym, take_at, true, zero, ℕ}
use Rattle.octets.specs.Choice.{all_below}
use Rattle.octets.specs.Bytes.{joined}
use Rattle.octets.proofs.Below.{all-at, both}
use Rattle.wire.specs.Layout.{layout_for}
use Rattle.wire.specs.Messages.{message_layout, length_for, message_length}
use Rattle.wire.proofs.Exactly.{done-exactly}
use Rattle.table.specs.Table.{sound}
use Rattle.tape.specs.Entries.{stamp_of}
use Rattle.notices.specs.Notices.{message}
use Rattle.laws.specs.Messages.{OneOfTwelve, AtMostOne, silent, told}
use Rattle.rules.specs.Plan.{plan_of}
use Rattle.host.specs.Step.{Books, World, comes_to}
use Rattle.day.specs.Day.{telling, unlimited, Action, run}
use Rattle.day.specs.Demand.{bytes, WholeMessages, cut_into, messages_in, AllOfTwelve}
use Rattle.laws.specs.Ready.{Ready}
use Rattle.laws.proofs.Sent.{sends}
use Rattle.day.proofs.Plays.{plays}
use Rattle.day.proofs.Day.{streams}

-- ---- the messages of a play

one-behind : (past : List (List ℕ)) (m : List ℕ) → AtMostOne m → AllOfTwelve past → AllOfTwelve (past ++ telling m [])
one-behind [] [] one all = tt
one-behind [] (b ∷ bs) (silent e) all = absurd (omega (arith, ap length e))
one-behind [] (b ∷ bs) (told one most) all = (one, tt)
one-behind (x ∷ past) m one all = (all.0, one-behind past m one all.1)

pub all-legal : (ss : List (List ℕ)) (b : Books) → sound b.table ≡ true → AllOfTwelve (unlimited b ss).messages
all-legal ss b ok =
    plays (λ b' past. AllOfTwelve past)
    (λ b' s past good done all. one-behind past (message (stamp_of s) (plan_of (comes_to b' s))) (sends b' s good done) all) ss b [] ok tt

-- ---- cutting

-- message k of the sixteen, where it is outbound: its type fixes its length, which is not 0
lengths-fixed : all_below 16 (λ k. ltb k 4 || (eqb (message_length false (message_layout k).code) (message_layout k).size && ltb 0 (message_layout k).size)) ≡ true
unfolding all_below length_for layout_for
lengths-fixed = refl

module _ (m : List ℕ) (one : OneOfTwelve m) where
  fixed : (eqb (message_length false (message_layout one.number).code) (message_layout one.number).size && ltb 0 (message_layout one.number).size) ≡ true
  fixed =
      subst (λ (b : Bool). (b || (eqb (message_length false (message_layout one.number).code) (message_layout one.number).size && ltb 0 (message_layout one.number).size)) ≡ true)
      (le-ltb one.number 4 one.low) (all-at _ 16 one.number lengths-fixed one.high)

  long : message_length false (get_or m 0 0) ≡ length m
  long =
      let legal = (done-exactly (message_layout one.number) m).0 one.legal in
      ap (message_length false) legal.typed ∙ eqb-true _ _ (both _ _ fixed).0 ∙ sym legal.long

  some : 0 < length m
  some =
      let legal = (done-exactly (message_layout one.number) m).0 one.legal in
      let size = (message_layout one.number).size in
      omega (arith, legal.long, ltb-true 0 size (both (eqb (message_length false (message_layout one.number).code) size) (ltb 0 size) fixed).1)

pub cut_again : (ms : List (List ℕ)) → AllOfTwelve ms → (n : ℕ) → length (joined ms) ≤ n → cut_into n (joined ms) ≡ ms
unfolding joined cut_into
cut_again [] all zero enough = refl
cut_again [] all (suc n) enough = refl
cut_again ([] ∷ ms) all n enough = absurd (omega (arith, some [] all.0))
cut_again ((b ∷ bs) ∷ ms) all zero enough = absurd (omega (arith, length-append (b ∷ bs) (joined ms)))
cut_again ((b ∷ bs) ∷ ms) all (suc n) enough =
    let m : List ℕ = b ∷ bs in
    let size : message_length false b ≡ length m = long m all.0 in
    ap₂ ◌∷◌
    (take_at m (joined ms) (message_length false b) (sym size))
    (ap (cut_into n) (drop_at m (joined ms) (message_length false b) (sym size))
    ∙ cut_again ms all.1 n (omega (arith, length-append m (joined ms))))

-- ---- of every schedule that gets through the list

pub whole-messages : (w : World) (ss : List (List ℕ)) (todo : List Action) → Ready w → w.marks.held ≡ 0 → (run w ss todo).left ≡ []
    → WholeMessages ((run w ss todo).released ++ bytes (run w ss todo).world) (unlimited w.books ss).messages
unfolding messages_in
whole-messages w ss todo ok none through =
    let legal = all-legal ss w.books ok.table in
    record {
      cut = ap (λ (s : List ℕ). cut_into (length s) s) (streams w ss todo ok none through).messages
          ∙ cut_again (unlimited w.books ss).messages legal _ (omega arith);
      legal = legal;
    }
