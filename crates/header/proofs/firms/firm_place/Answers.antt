-- The places are looked at in their order. Assumes nothing.
use Rattle.octets.proofs.Proving.{arith}
use Rattle.octets.specs.Bytes.{same}
use Rattle.octets.proofs.First.{ahead-start, ahead-found, ahead-next, ahead-end}
use Rattle.header.specs.Firms.{firm_at, firm_place}
use Rattle.octets.proofs.Below.{compared}
use Rattle.header.proofs.firms.firm_place.Goals as goal

pub loop-k-init : goal.loop-k-init
loop-k-init c = ahead-start _ _

pub returns-then-eq : goal.returns-then-eq
unfolding firm_place
returns-then-eq c =
    let a = c.args in
    let l = c.loop-k in
    ahead-found a.h.count (λ j. same (firm_at a.h.firms j) a.firm) l.k l.invariant (omega arith) (cc (compared c.firm_at.result a.firm))

pub loop-k-preserved : goal.loop-k-preserved
loop-k-preserved c =
    let a = c.args in
    let l = c.loop-k in
    ahead-next a.h.count (λ j. same (firm_at a.h.firms j) a.firm) l.k l.invariant (omega arith) (cc (compared c.firm_at.result a.firm))

pub returns : goal.returns
unfolding firm_place
returns c =
    let a = c.args in
    let l = c.loop-k in
    ahead-end a.h.count (λ j. same (firm_at a.h.firms j) a.firm) l.k l.invariant (omega arith)
