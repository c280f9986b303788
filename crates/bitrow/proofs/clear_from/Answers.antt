-- The byte in which n lies is below a power of 2 and those behind it are 0, or n lies past the row. Assumes nothing.
use Rattle.octets.proofs.Proving.{◌&&◌, ◌∙◌, ap₂, arith, sym}
use Rattle.bitrow.proofs.Rows.{bit-past-row}
use Rattle.bitrow.proofs.Clear.{clear-bytes, each-clear}
use Rattle.bitrow.proofs.clear_from.Goals as goal

pub returns-then-at-end : goal.returns-then-at-end
returns-then-at-end c =
    let a = c.args in
    ap₂ ◌&&◌ c.none_from.ensures c.are_zero.ensures
    ∙ clear-bytes a.bits.now a.n (λ k. (c.type_inv.bits k).fits) (omega arith)

pub returns : goal.returns
returns c =
    let a = c.args in
    sym (each-clear a.bits.now a.n (λ i h. bit-past-row a.bits.now i (omega arith)))
