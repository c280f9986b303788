-- Eight places are asked, one more in each turn. Assumes nothing.
use Rattle.octets.proofs.Proving.{Bool, List, ◌||◌, ◌∙◌, ◌≡◌, ap, arith, false, ltb, refl, sym, true, ℕ}
use Rattle.octets.specs.Choice.{pick, all_below}
use Rattle.octets.specs.Bytes.{all_are}
use Rattle.header.proofs.Listed.{firm-part}
use Rattle.octets.proofs.Below.{all-next}
use Rattle.header.specs.Firms.{firm_at, rest_blank}
use Rattle.header.proofs.firms.rest_blank.Goals as goal

either : (a b : Bool) → (a || b) ≡ pick a true b
either true b = refl
either false b = refl

pub loop-k-init : goal.loop-k-init
unfolding all_below
loop-k-init c = refl

pub loop-k-preserved : goal.loop-k-preserved
loop-k-preserved c =
    let a = c.args in
    let l = c.loop-k in
    all-next (λ j. pick (ltb j a.count) true (all_are 0 (firm_at a.firms j))) l.k l.invariant (ap (λ (z : Bool). ltb l.k a.count || z) c.are_zero.ensures ∙ ap (λ (l' : List ℕ). ltb l.k a.count || all_are 0 l') (sym (firm-part a.firms l.k (omega arith))) ∙ either (ltb l.k a.count) _)

pub returns : goal.returns
unfolding rest_blank
returns c =
    let e : c.loop-k.k ≡ 8 = omega arith in
    rw (← e) c.loop-k.invariant
