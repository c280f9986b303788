-- The eight records of a byte are searched at once: the first that is wanted is the first of all, as none before it is. Assumes nothing.
use Rattle.octets.proofs.Proving.{Bool, List, ◌&&◌, ◌<◌, ◌∙◌, ◌≡◌, ap, arith, false, length, lt-ltb, ltb, ltb-true, sym, ℕ}
use Rattle.octets.proofs.Below.{both}
use Rattle.octets.proofs.First.{first-only, none_only}
use Rattle.orders.specs.Wanted.{is_wanted}
use Rattle.orders.specs.declared.wanted.Wanted.{Wanted}
use Rattle.table.specs.Table.{order_at, is_marked, first_marked}
use Rattle.table.proofs.Stored.{used-within, covers, few_bits}
use Rattle.table.proofs.Eight.{eight-found, eight-none}
use Rattle.table.proofs.search.find_wanted.Goals as goal
use Rattle.table.proofs.search.find_wanted.Invariants.{passes}

-- one of the first n that does not pass is not marked or not wanted
failing : (t : List ℕ) (wanted : Wanted) (n j : ℕ) → j < n → passes t wanted n j ≡ false → (is_marked t j && is_wanted wanted (order_at t j)) ≡ false
failing t wanted n j l e = ap (λ (b : Bool). is_marked t j && (b && is_wanted wanted (order_at t j))) (sym (lt-ltb j n l)) ∙ e

pub loop-at-init : goal.loop-at-init
loop-at-init c = λ j l. absurd (omega arith)

pub among_eight-i-requires : goal.among_eight-i-requires
among_eight-i-requires c =
    (omega (arith, c.used-n.ensures, used-within c.args.table.now), omega (arith, ap length c.bit_bytes-at-end.ensures))

pub overflow_add-at : goal.overflow_add-at
overflow_add-at c = omega (arith, ap length c.bit_bytes-at-end.ensures, few_bits c.args.table.now)

pub returns-then-i-at : goal.returns-then-i-at
unfolding first_marked
returns-then-i-at c =
    let l = c.loop-at in
    let n = c.used-n.result in
    let t = c.args.table.now in
    let wanted = c.args.wanted in
    let is = c.among_eight-i.ensures in
    let found = eight-found (passes t wanted n) l.at l.invariant (omega (arith, is)) in
    let marked = both (is_marked t _) _ found.0 in
    let first = both (ltb _ n) _ marked.1 in
    let below = ltb-true _ n first.0 in
    is ∙ sym (rw (← c.used-n.ensures)
    (first-only (λ i. is_marked t i && is_wanted wanted (order_at t i)) n _
    record { below = below; holds = rw marked.0 first.1; none_before = λ j k. failing t wanted n j (omega (arith, k, below)) (found.1 j k) }))

pub loop-at-preserved : goal.loop-at-preserved
loop-at-preserved c =
    eight-none (passes c.args.table.now c.args.wanted c.used-n.result) c.loop-at.at c.loop-at.invariant (omega (arith, c.among_eight-i.ensures))

pub returns : goal.returns
unfolding first_marked
returns c =
    let n = c.used-n.result in
    let t = c.args.table.now in
    let wanted = c.args.wanted in
    let all = covers t n (omega (arith, c.used-n.ensures, used-within t)) in
    sym (rw (← c.used-n.ensures)
    (none_only (λ i. is_marked t i && is_wanted wanted (order_at t i)) n
    (λ j k. failing t wanted n j k (c.loop-at.invariant j (omega (arith, k, all, ap length c.bit_bytes-at-end.ensures))))))
