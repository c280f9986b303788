-- At each return the tests that led there are the guards of `release_answer`. Assumes nothing.
use Rattle.octets.proofs.Proving.{◌∙◌, ◌≡◌, arith, le-ltb, lt-ltb, sym, true}
use Rattle.answers.specs.Answer.{is_done, if_done}
use Rattle.outbox.specs.Outbox.{ring_good, release_answer, marks_without, release_marks}
use Rattle.outbox.proofs.Right.{right}
use Rattle.outbox.proofs.release.release.Goals as goal
use Rattle.outbox.proofs.release.release.Goals.{Else-not-ring_good}

good : (c : Else-not-ring_good) → ring_good c.args.n c.args.marks.now ≡ true
good c = sym c.ring_good.ensures ∙ c.if-not-ring_good.false

pub returns-then-not-ring_good : goal.returns-then-not-ring_good
unfolding release_answer release_marks if_done is_done
returns-then-not-ring_good c =
    let bad = sym c.ring_good.ensures ∙ c.if-not-ring_good.true in record { value = simp bad; marks_after = simp bad }

pub returns-then-marks-k : goal.returns-then-marks-k
unfolding release_answer release_marks if_done is_done
returns-then-marks-k c =
    let good = good (goal.at.returns-then-marks-k c).Else-not-ring_good in
    let short = lt-ltb _ _ c.if-marks-k.true in
    record { value = simp (good, short); marks_after = simp (good, short) }

pub overflow_add-marks : goal.overflow_add-marks
overflow_add-marks c = omega (arith, right _ _ (good (goal.at.overflow_add-marks c).Else-not-ring_good))

pub returns : goal.returns
unfolding release_answer release_marks marks_without if_done is_done
returns c =
    let good = good (goal.at.returns c).Else-not-ring_good in
    let enough = le-ltb _ _ c.if-marks-k.false in
    record { value = simp (good, enough); marks_after = simp (good, enough, c.around.ensures) }
