-- The first record that is not sound ends the walk; at the end each is sound, and the sum is of what is open of all. Assumes nothing.
use Rattle.octets.proofs.Proving.{◌∙◌, ◌≡◌, ap, arith, refl, sym}
use Rattle.std.specs.Prelude.{Some}
use Rattle.octets.specs.Choice.{all_below}
use Rattle.octets.proofs.Below.{all_true, all-false}
use Rattle.wire.specs.declared.shares.Removed.{Removed}
use Rattle.orders.specs.Order.{order_of, open_of}
use Rattle.orders.specs.Sound.{record_sound, verdict_on}
use Rattle.orders.proofs.Told.{none-told, some-told}
use Rattle.table.specs.Table.{record_bytes, order_at, sum_below, open_at}
use Rattle.table.specs.Walk.{found_in}
use Rattle.table.proofs.Sums.{sum-next}
use Rattle.table.proofs.walk.walk.Goals as goal

pub loop-i-init : goal.loop-i-init
unfolding all_below sum_below
loop-i-init c = (refl, refl, omega arith)

pub loop-i-preserved : goal.loop-i-preserved
unfolding verdict_on order_at
loop-i-preserved c =
    let t = c.args.table.now in
    let l = c.loop-i in
    let r = record_bytes t l.i in
    let found : Some c.in_ok-open.open ≡ verdict_on r = sym c.in_ok-open.was ∙ c.judge_record.ensures ∙ ap verdict_on c.record_at.ensures in
    let told = some-told (record_sound r) _ found in
    let same : c.in_ok-open.open.0 ≡ (open_of (order_of r)).0 = ap (λ (x : Removed). x.0) told.1 in (
      all_true (λ j. record_sound (record_bytes t j)) l.i l.invariant.0 told.0,
      omega (arith, l.invariant.1, same, sum-next (open_at t) l.i),
      omega (arith, l.invariant.2),
    )

pub returns-in_err-open : goal.returns-in_err-open
unfolding verdict_on found_in
returns-in_err-open c =
    let t = c.args.table.now in
    let i = c.loop-i.i in
    let fails = none-told (record_sound (record_bytes t i)) _ (sym c.in_err-open.was ∙ c.judge_record.ensures ∙ ap verdict_on c.record_at.ensures) in
    c.from_residual.ensures ∙ sym (rw (all-false (λ j. record_sound (record_bytes t j)) c.args.n i (omega arith) fails))

pub returns : goal.returns
unfolding found_in
returns c =
    let l = c.loop-i in
    let e : l.i ≡ c.args.n = omega arith in
    rw (← e, l.invariant.0, l.invariant.1)
