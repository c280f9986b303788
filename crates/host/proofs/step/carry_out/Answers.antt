-- Blocked where there is no room, and else all is written. Assumes nothing.
use Rattle.outbox.specs.Outbox.{free_bytes}
use Rattle.outbox.proofs.Right.{right}
use Rattle.host.specs.Step.{world}
use Rattle.host.proofs.Offers.{blocked-leaves, done-leaves, fits}
use Rattle.host.proofs.step.carry_out.Goals as goal

pub overflow_sub-ring : goal.overflow_sub-ring
overflow_sub-ring c = (right _ _ c.requires.0).count

pub returns-then-ring-marks : goal.returns-then-ring-marks
unfolding free_bytes
returns-then-ring-marks c =
    (blocked-leaves (world c.args.table.now c.args.ring.now c.args.marks.now c.args.stocks.now) c.args.place c.args.stamp c.args.plan
    c.message-sent.ensures c.if-ring-marks.true)

pub append_front-requires : goal.append_front-requires
unfolding free_bytes
append_front-requires c = (c.requires.0, (c.if-ring-marks.false, fits _ c.message-sent.ensures))

pub returns : goal.returns
unfolding free_bytes
returns c =
    done-leaves (world c.args.table.now c.args.ring.now c.args.marks.now c.args.stocks.now) c.args.place c.args.stamp c.args.plan
    c.message-sent.ensures c.if-ring-marks.false c.append_front.ensures.marks_after c.commit.ensures c.append_front.ensures.ring_after c.set_if.ensures
