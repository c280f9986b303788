-- A bit is asked in each turn. Assumes nothing.
use Rattle.octets.proofs.Proving.{List, ◌∙◌, ap, ap₂, arith, sub_self, ℕ}
use mathlib.Core.Bool.{beq}
use Rattle.octets.specs.Choice.{all_below}
use Rattle.bitrow.specs.Row.{bit_at}
use Rattle.orders.specs.Order.{order_of, is_live}
use Rattle.table.specs.Table.{order_at, is_marked}
use Rattle.table.proofs.Judging.{one_more}
use Rattle.table.proofs.sound.rest_agrees.Goals as goal

pub loop-i-init : goal.loop-i-init
unfolding all_below
loop-i-init c = rw sub_self

pub loop-i-preserved : goal.loop-i-preserved
unfolding is_marked order_at
loop-i-preserved c =
    let a = c.args in
    let l = c.loop-i in
    let bit = c.bit_at.ensures ∙ ap (λ (b : List ℕ). bit_at b l.i) c.bit_bytes-bits.ensures in
    let live = c.lives.ensures ∙ ap (λ (r : List ℕ). is_live (order_of r)) c.record_bytes.ensures in
    one_more a.table.now a.from l.i (omega arith) l.invariant (ap₂ beq bit live)
