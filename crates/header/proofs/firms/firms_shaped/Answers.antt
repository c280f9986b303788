-- The first firm that is not shaped settles it; at the end each is. Assumes nothing.
use Rattle.octets.proofs.Proving.{◌∙◌, ◌≡◌, ap, arith, refl, sym}
use Rattle.octets.specs.Choice.{all_below}
use Rattle.octets.proofs.Below.{all_true, all-false}
use Rattle.wire.specs.Text.{shaped}
use Rattle.header.specs.Firms.{firm_at, firms_shaped}
use Rattle.header.proofs.firms.firms_shaped.Goals as goal

pub loop-k-init : goal.loop-k-init
unfolding all_below
loop-k-init c = refl

pub loop-k-preserved : goal.loop-k-preserved
loop-k-preserved c =
    let l = c.loop-k in
    let e = sym (ap shaped c.firm_at.ensures) ∙ sym c.is_shaped.ensures ∙ c.if-not-is_shaped.false in
    all_true (λ j. shaped (firm_at c.args.firms j)) l.k l.invariant e

pub returns-then-not-is_shaped : goal.returns-then-not-is_shaped
unfolding firms_shaped
returns-then-not-is_shaped c =
    let l = c.loop-k in
    let e = sym (ap shaped c.firm_at.ensures) ∙ sym c.is_shaped.ensures ∙ c.if-not-is_shaped.true in
    sym (all-false (λ j. shaped (firm_at c.args.firms j)) c.args.count l.k (omega arith) e)

pub returns : goal.returns
unfolding firms_shaped
returns c =
    let l = c.loop-k in
    let e : l.k ≡ c.args.count = omega arith in
    sym (rw (← e) l.invariant)
