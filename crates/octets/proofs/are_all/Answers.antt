-- A byte more is one test more. Assumes nothing.
use Rattle.octets.proofs.Proving.{◌∙◌, ◌&&◌, Bool, ap, drop, eqb, get_or, refl, sym, take, ◌+◌, ◌-◌}
use Rattle.octets.specs.Bytes.{all_are}
use Rattle.octets.proofs.Below.{are-taken}
use Rattle.octets.proofs.are_all.Goals as goal

pub loop-b-init : goal.loop-b-init
unfolding all_are
loop-b-init c = refl

pub loop-b-preserved : goal.loop-b-preserved
loop-b-preserved c =
    let a = c.args in
    let xs = take (a.at + a.n - a.at) (drop a.at a.s.now) in
    ap (λ (b : Bool). b && eqb (get_or xs c.loop-b.b-index 0) a.byte) c.loop-b.invariant ∙ sym (are-taken a.byte xs c.loop-b.b-index c.loop-b-test.true)
