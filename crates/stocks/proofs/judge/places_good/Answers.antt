-- A test that fails settles all the places; those that pass add two, and at the end one may be left. Assumes nothing.
use Rattle.octets.proofs.Proving.{Bool, ◌&&◌, ◌+◌, ◌-◌, ◌∙◌, ◌≡◌, ap, arith, ltb, sym}
use Rattle.octets.specs.Choice.{all_below}
use Rattle.stocks.specs.Ranks.{rank_at}
use Rattle.stocks.proofs.Good.{first-judged, state-fails, orders-fail, pair-passes, last-judged}
use Rattle.stocks.proofs.judge.places_good.Goals as goal

pub returns-then-not-state_good : goal.returns-then-not-state_good
returns-then-not-state_good c =
    sym (state-fails c.args.list.now (λ k. (c.type_inv.list k).fits) c.args.n c.requires.1 0 c.requires.0
    (sym c.state_good.ensures ∙ c.if-not-state_good.true))

pub loop-i-init : goal.loop-i-init
unfolding all_below
loop-i-init c = (
  omega arith,
  c.requires.0,
  c.rank_at-last.ensures,
  sym (first-judged _) ∙ sym c.state_good.ensures ∙ c.if-not-state_good.false,
)

pub returns-then-not-last-first : goal.returns-then-not-last-first
returns-then-not-last-first c =
    let l = c.loop-i in
    sym (orders-fail c.args.list.now (λ k. (c.type_inv.list k).fits) c.args.n c.requires.1 l.i l.last _ _
    l.invariant.0 c.loop-i-test.true l.invariant.2 c.rank_at-first.ensures c.rank_at-second.ensures (c.if-not-last-first.true))

pub returns-then-not-state_good-2 : goal.returns-then-not-state_good-2
returns-then-not-state_good-2 c =
    sym (state-fails c.args.list.now (λ k. (c.type_inv.list k).fits) c.args.n c.requires.1 c.loop-i.i
    (omega (arith, c.loop-i-test.true)) (sym c.state_good-in-loop-i.ensures ∙ c.if-not-state_good-2.true))

pub returns-then-not-state_good-3 : goal.returns-then-not-state_good-3
returns-then-not-state_good-3 c =
    sym (state-fails c.args.list.now (λ k. (c.type_inv.list k).fits) c.args.n c.requires.1 (c.loop-i.i + 1)
    c.loop-i-test.true (sym c.state_good-in-loop-i-2.ensures ∙ c.if-not-state_good-3.true))

pub loop-i-preserved : goal.loop-i-preserved
loop-i-preserved c =
    let l = c.loop-i in
    let list = c.args.list.now in
    let e : l.i + 1 ≡ l.i + 2 - 1 = omega arith in (
      omega arith,
      omega (arith, c.loop-i-test.true),
      c.rank_at-second.ensures ∙ ap (rank_at list) e,
      pair-passes list (λ k. (c.type_inv.list k).fits) c.args.n c.requires.1 l.i l.last _ _ l.invariant.0
          c.loop-i-test.true l.invariant.2 c.rank_at-first.ensures c.rank_at-second.ensures (c.if-not-last-first.false)
          (sym c.state_good-in-loop-i.ensures ∙ c.if-not-state_good-2.false)
          (sym c.state_good-in-loop-i-2.ensures ∙ c.if-not-state_good-3.false) l.invariant.3,
    )

pub returns-then-i-n : goal.returns-then-i-n
returns-then-i-n c =
    let l = c.loop-i in
    let list = c.args.list.now in
    ap (λ (b : Bool). ltb l.last c.rank_at.result && b) c.state_good-then-i-n.ensures
    ∙ last-judged list (λ k. (c.type_inv.list k).fits) c.args.n c.requires.1 l.i l.last _ l.invariant.0
    (omega (arith, c.loop-i-test.false, c.if-i-n.true)) l.invariant.2 c.rank_at.ensures l.invariant.3
