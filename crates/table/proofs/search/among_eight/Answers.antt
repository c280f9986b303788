-- The lowest of the bits that are left is looked at, and cleared if its record is not wanted. Assumes nothing.
use Rattle.octets.proofs.Proving.{List, ◌&&◌, ◌*◌, ◌+◌, ◌<◌, ◌∙◌, ◌≡◌, ◌≤◌, answered, ap, arith, false, get_or, subst, sym, true, ℕ}
use Rattle.octets.specs.Choice.{first_below}
use Rattle.octets.specs.Bits.{bit_of}
use Rattle.octets.proofs.First.{first-within}
use Rattle.table.specs.Table.{bit_bytes, is_marked}
use Rattle.table.proofs.Stored.{few_bits}
use Rattle.table.proofs.Eight.{look-start, lowest-is, look-found, look-fewer, look-next, look_none, among-row}
use Rattle.table.proofs.search.among_eight.Goals as goal
use Rattle.table.proofs.search.among_eight.Goals.{After-lowest-k}
use Rattle.table.proofs.search.among_eight.Invariants.{test}

pub bounds-bits-at : goal.bounds-bits-at
bounds-bits-at c = rw c.bit_bytes-bits.ensures c.requires.1

pub loop-left-init : goal.loop-left-init
loop-left-init c =
    let start = c in
    (ap (λ (b : List ℕ). get_or b start.args.at 0) c.bit_bytes-bits.ensures, look-start _ _ (c.shared_slice_known-2-1.given start.args.at).fits)

-- the bits' numbers fit
pub overflow_mul-at : goal.overflow_mul-at
overflow_mul-at c = let start = c in omega (arith, few_bits start.args.table.now, start.requires.1)

pub overflow_add-at : goal.overflow_add-at
overflow_add-at c =
    let start = c in
    let small : c.lowest-k.result ≤ 8 = subst (λ (m : ℕ). m ≤ 8) (sym c.lowest-k.ensures) (first-within (bit_of c.loop-left.left) 8) in
    omega (arith, few_bits start.args.table.now, start.requires.1, small)

pub wanted_at-requires : goal.wanted_at-requires
wanted_at-requires c = c.requires.0

pub returns-then-wanted_at : goal.returns-then-wanted_at
unfolding is_marked
returns-then-wanted_at c =
    let start = c in
    let t = start.args.table.now in
    let at = start.args.at in
    let l = c.loop-left in
    let k = c.lowest-k.ensures in
    let here = test t start.args.wanted start.args.n at in
    let holds : here (first_below 8 (bit_of l.left)) ≡ true = subst (λ (m : ℕ). here m ≡ true) k (answered c.wanted_at.ensures c.if-wanted_at.true) in
    ap (λ (m : ℕ). 8 * at + m)
    (k ∙ look-found _ here l.left l.invariant.1 c.loop-left-test.true holds
    ∙ ap (λ (b : ℕ). first_below 8 (λ j. bit_of b j && here j)) l.invariant.0 ∙ among-row (bit_bytes t) at here)

pub cleared-left-requires : goal.cleared-left-requires
cleared-left-requires c =
    let l = c.loop-left in
    let lowest = lowest-is l.left l.invariant.1.small c.loop-left-test.true in
    subst (λ (m : ℕ). (m < 8) × (bit_of l.left m ≡ true)) (sym c.lowest-k.ensures) (lowest.below, lowest.holds)

pub loop-left-smaller : goal.loop-left-smaller
loop-left-smaller c =
    let l = c.loop-left in
    rw (c.cleared-left.ensures, c.lowest-k.ensures) (look-fewer _ _ l.left l.invariant.1 c.loop-left-test.true)

pub loop-left-preserved : goal.loop-left-preserved
loop-left-preserved c =
    let turn = c in
    let start = turn in
    let l = turn.loop-left in
    let k = c.lowest-k.ensures in
    let here = test start.args.table.now start.args.wanted start.args.n start.args.at in
    let fails : here (first_below 8 (bit_of l.left)) ≡ false = subst (λ (m : ℕ). here m ≡ false) k (answered c.wanted_at.ensures c.if-wanted_at.false) in
    (l.invariant.0, rw (c.cleared-left.ensures, k) (look-next _ here l.left l.invariant.1 c.loop-left-test.true fails))

pub overflow_mul-result-2 : goal.overflow_mul-result-2
overflow_mul-result-2 c = let start = c in omega (arith, few_bits start.args.table.now, start.requires.1)

pub overflow_add-result-2 : goal.overflow_add-result-2
overflow_add-result-2 c = let start = c in omega (arith, few_bits start.args.table.now, start.requires.1)

pub returns : goal.returns
unfolding is_marked
returns c =
    let start = c in
    let t = start.args.table.now in
    let at = start.args.at in
    let l = c.loop-left in
    let here = test t start.args.wanted start.args.n at in
    ap (λ (m : ℕ). 8 * at + m)
    (sym (look_none _ here l.left l.invariant.1 c.loop-left-test.false) ∙ ap (λ (b : ℕ). first_below 8 (λ j. bit_of b j && here j)) l.invariant.0 ∙ among-row (bit_bytes t) at here)

pub overflow_mul-result : goal.overflow_mul-result
overflow_mul-result c = overflow_mul-at (goal.at.overflow_mul-result c).After-lowest-k

pub overflow_add-result : goal.overflow_add-result
overflow_add-result c = overflow_add-at (goal.at.overflow_add-result c).After-lowest-k
