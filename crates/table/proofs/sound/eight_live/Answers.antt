-- A bit is made in each turn. Assumes nothing.
use Rattle.octets.proofs.Proving.{Bool, List, ◌+◌, ◌∙◌, ◌≡◌, add-one, ap, arith, refl, sym, ℕ}
use Rattle.octets.specs.Bits.{with_bit}
use Rattle.bitrow.specs.Row.{packed}
use Rattle.orders.specs.Order.{order_of, is_live}
use Rattle.table.specs.Table.{records_in, order_at}
use Rattle.table.proofs.sound.eight_live.Goals as goal
use Rattle.table.proofs.sound.eight_live.Invariants.{live}

-- one bit more
next : (t : List ℕ) (at j byte : ℕ) (on : Bool) → byte ≡ packed j (live t at) → on ≡ live t at j → with_bit byte j on ≡ packed (j + 1) (live t at)
unfolding packed
next t at j byte on made here =
    ap (λ (b : ℕ). with_bit b j on) made ∙ ap (with_bit (packed j (live t at)) j) here ∙ ap (λ (w : ℕ). packed w (live t at)) (sym (add-one j))

pub loop-j-init : goal.loop-j-init
unfolding packed
loop-j-init c = refl

pub overflow_mul-at : goal.overflow_mul-at
unfolding records_in
overflow_mul-at c = omega (arith, c.requires)

pub overflow_add-at : goal.overflow_add-at
unfolding records_in
overflow_add-at c = omega (arith, c.requires)

pub loop-j-preserved : goal.loop-j-preserved
unfolding order_at
loop-j-preserved c =
    let a = c.args in
    let l = c.loop-j in
    let here = c.lives.ensures ∙ ap (λ (r : List ℕ). is_live (order_of r)) c.record_bytes.ensures in
    c.with_bit-byte.ensures ∙ next a.table.now a.at l.j l.byte _ l.invariant here

pub returns : goal.returns
returns c =
    let a = c.args in
    let e : c.loop-j.j ≡ 8 = omega arith in
    c.loop-j.invariant ∙ ap (λ (w : ℕ). packed w (live a.table.now a.at)) e
