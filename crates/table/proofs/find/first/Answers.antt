-- Two records are looked at in a turn, and one behind the loop where their number is odd. Assumes nothing.
use Rattle.octets.proofs.Proving.{◌+◌, ◌≡◌, answered, arith}
use Rattle.octets.proofs.First.{Ahead, ahead-start, ahead-found, ahead-next, ahead-end}
use Rattle.table.specs.Table.{records_in, has_token}
use Rattle.table.proofs.find.first.Goals as goal
use Rattle.table.proofs.find.first.Goals.{Else-has_token, else-i-n-via-then-i-n+else-has_token-3, else-i-n-via-else-i-n}

-- the first of a turn's two records does not have it
second : (c : Else-has_token) → let a = c.args in
    Ahead a.n (has_token a.table.now a.token) (c.loop-i.i + 1)
second c =
    let l = c.loop-i in
    ahead-next _ _ l.i l.invariant.1 (omega arith) (answered c.has_token.ensures c.if-has_token.false)

pub loop-i-init : goal.loop-i-init
loop-i-init c = (omega arith, ahead-start _ _)

pub overflow_add-i : goal.overflow_add-i
unfolding records_in
overflow_add-i c = omega arith

pub returns-then-has_token : goal.returns-then-has_token
returns-then-has_token c =
    let l = c.loop-i in
    ahead-found _ _ l.i l.invariant.1 (omega arith) (answered c.has_token.ensures c.if-has_token.true)

pub returns-then-has_token-2 : goal.returns-then-has_token-2
returns-then-has_token-2 c =
    ahead-found _ _ _ (second (goal.at.returns-then-has_token-2 c).Else-has_token) (omega arith) (answered c.has_token-in-loop-i.ensures c.if-has_token-2.true)

pub loop-i-preserved : goal.loop-i-preserved
loop-i-preserved c =
    let l = c.loop-i in
    let e : l.i + 1 + 1 ≡ l.i + 2 = omega arith in
    (omega arith, rw (← e) (ahead-next _ _ _ (second (goal.at.loop-i-preserved c).Else-has_token) (omega arith) (answered c.has_token-in-loop-i.ensures c.if-has_token-2.false)))

pub returns-then-has_token-3 : goal.returns-then-has_token-3
returns-then-has_token-3 c =
    let l = c.loop-i in
    ahead-found _ _ l.i l.invariant.1 (omega arith) (answered c.has_token-then-i-n.ensures c.if-has_token-3.true)

pub returns : goal.returns
returns c =
    let l = c.loop-i in
    elim c.else-i-n.branch [
      | else-i-n-via-then-i-n+else-has_token-3 w ↦ ahead-end _ _ (l.i + 1) (ahead-next _ _ l.i l.invariant.1 (omega arith) (answered w.has_token-then-i-n.ensures w.if-has_token-3.false)) (omega arith)
      | else-i-n-via-else-i-n w ↦ ahead-end _ _ l.i l.invariant.1 (omega arith)
    ]
