-- Each code is put right behind the last one; what is left are zeros. Assumes nothing.
use Rattle.octets.proofs.Proving.{◌∙◌, arith, refl}
use Rattle.octets.specs.Bytes.{joined}
use Rattle.header.proofs.Listed.{row_next, row-all}
use Rattle.header.proofs.settings.listed_firms.Goals as goal

pub loop-k-init : goal.loop-k-init
unfolding joined
loop-k-init c = (refl, refl, refl)

pub loop-k-preserved : goal.loop-k-preserved
loop-k-preserved c =
    let firms = c.args.firms in
    let l = c.loop-k in
    let next = row_next firms l.k l.row _ (omega arith) (omega arith) l.invariant.1 l.invariant.2 c.put_array.ensures.0 c.put_array.ensures.1 in
    (c.put_array.auto.s ∙ l.invariant.0, next.0, next.1)

pub returns : goal.returns
returns c =
    c.loop-k.invariant.1 ∙ row-all c.args.firms c.args.count c.loop-k.k (omega arith) (omega (arith, c.min-k-end.ensures)) c.loop-k.invariant.2
