-- A byte more is judged by what was seen before it. Assumes nothing.
use Rattle.octets.proofs.Proving.{Bool, ◌&&◌, ◌-◌, ◌∙◌, ap, drop, false, length, sym, take}
use Rattle.wire.proofs.Shapes.{rest, upper, shaped-none, shaped-first, shaped-next, shaped-end}
use Rattle.wire.proofs.text.is_shaped.Goals as goal

pub returns-in_default : goal.returns-in_default
returns-in_default c = shaped-none c.args.s.now c.in_default.len_below

pub loop-b-init : goal.loop-b-init
loop-b-init c =
    let s = c.args.s.now in
    shaped-first s c.in-len1-up.len_at_least ∙ ap (λ (b : Bool). b && rest false (take (length s - 1) (drop 1 s))) (sym (c.is_ascii_uppercase-ok.ensures.value ∙ upper _))

pub loop-b-preserved : goal.loop-b-preserved
loop-b-preserved c =
    let s = c.args.s.now in
    let l = c.loop-b in
    rw (c.is_ascii_uppercase.ensures.value, upper) (l.invariant ∙ shaped-next (take (length s - 1) (drop 1 s)) l.b-index l.ok l.blank c.loop-b-test.true)

pub returns : goal.returns
returns c =
    let s = c.args.s.now in
    let l = c.loop-b in
    sym (l.invariant ∙ shaped-end (take (length s - 1) (drop 1 s)) l.b-index l.ok l.blank c.loop-b-test.false)
