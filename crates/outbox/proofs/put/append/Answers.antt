-- The place behind the held bytes is computed once; a put is the two runs from there on. Assumes nothing.
use Rattle.octets.proofs.Proving.{◌+◌, ◌<◌, ◌∙◌, ap, arith, length, refl, sym, ℕ}
use Rattle.outbox.specs.Outbox.{marks_with, free_bytes}
use Rattle.outbox.specs.Runs.{in_two_runs}
use Rattle.outbox.proofs.Right.{right}
use Rattle.outbox.proofs.Ring.{around-below}
use Rattle.outbox.proofs.With.{fits-free}
use Rattle.outbox.proofs.Runs.{two_runs}
use Rattle.outbox.proofs.put.append.Goals as goal
use Rattle.outbox.proofs.put.append.Goals.{After-around-place}

-- the place is in the ring
place : (c : After-around-place) → c.around-place.result < length c.args.ring.now
place c =
    let a = c.args in
    let r = right _ _ c.requires.0 in
    rw c.around-place.ensures (around-below (length a.ring.now) (a.marks.now.at + a.marks.now.held) (omega arith))

pub overflow_add-marks : goal.overflow_add-marks
overflow_add-marks c = omega (arith, right _ _ c.requires.0)

pub copy_around-requires : goal.copy_around-requires
unfolding free_bytes
copy_around-requires c = (omega (arith, place (goal.at.copy_around-requires c).After-around-place), omega (arith, c.requires.1))

pub overflow_add-marks-2 : goal.overflow_add-marks-2
unfolding free_bytes
overflow_add-marks-2 c = omega (arith, right _ _ c.requires.0, c.requires.1)

pub returns-clause-marks_after : goal.returns-clause-marks_after
unfolding marks_with
returns-clause-marks_after c = refl

pub returns-clause-ring_after : goal.returns-clause-ring_after
returns-clause-ring_after c =
    let a = c.args in
    let ring = a.ring.now in
    let message = a.message.now in
    c.copy_around.ensures
    ∙ ap (λ (p : ℕ). in_two_runs ring p message) c.around-place.ensures
    ∙ sym (two_runs ring a.marks.now message (fits-free ring a.marks.now message c.requires.0 c.requires.1))
