-- At each return the tests that led there are the guards of `put_answer`. Assumes nothing.
use Rattle.octets.proofs.Proving.{◌∙◌, ◌≡◌, arith, le-ltb, length, lt-ltb, sym, true}
use Rattle.answers.specs.Answer.{is_done, if_done}
use Rattle.outbox.specs.Outbox.{ring_good, free_bytes, put_answer, put_marks, put_ring}
use Rattle.outbox.proofs.Right.{right}
use Rattle.outbox.proofs.put.put.Goals as goal
use Rattle.outbox.proofs.put.put.Goals.{Else-not-ring_good}

good : (c : Else-not-ring_good) → ring_good (length c.args.ring.now) c.args.marks.now ≡ true
good c = sym c.ring_good.ensures ∙ c.if-not-ring_good.false

pub overflow_sub-n : goal.overflow_sub-n
overflow_sub-n c = omega (arith, right _ _ (good (goal.at.overflow_sub-n c).Else-not-ring_good))

pub append-requires : goal.append-requires
unfolding free_bytes
append-requires c = (good (goal.at.append-requires c).Else-not-ring_good, omega arith)

pub returns-then-not-ring_good : goal.returns-then-not-ring_good
unfolding put_answer put_marks put_ring free_bytes if_done is_done
returns-then-not-ring_good c =
    let bad = sym c.ring_good.ensures ∙ c.if-not-ring_good.true in
    record { value = simp bad; marks_after = simp bad; ring_after = simp bad }

pub returns-then-n-marks : goal.returns-then-n-marks
unfolding put_answer put_marks put_ring free_bytes if_done is_done
returns-then-n-marks c =
    let good = good (goal.at.returns-then-n-marks c).Else-not-ring_good in
    let full = lt-ltb _ _ c.if-n-marks.true in
    record { value = simp (good, full); marks_after = simp (good, full); ring_after = simp (good, full) }

pub returns : goal.returns
unfolding put_answer put_marks put_ring free_bytes if_done is_done
returns c =
    let good = good (goal.at.returns c).Else-not-ring_good in
    let room = le-ltb _ _ c.if-n-marks.false in
    record {
      value = simp (good, room);
      marks_after = simp (good, room) c.append.ensures.marks_after;
      ring_after = simp (good, room) c.append.ensures.ring_after;
    }
