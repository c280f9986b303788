-- The bound: a row has fewer than 2 to the 61 bytes, of eight bits each. The sum over the bytes is the count of the row's bits. Assumes nothing.
use Rattle.octets.proofs.Proving.{◌∙◌, ◌≡◌, arith, rules}
use Rattle.std.proofs.lemmas.Iterator.{YieldsList-from_slice}
use Rattle.std.proofs.lemmas.Iterator.Adapters.{fits_from_length, at_most_from_yields_List}
use Rattle.std.specs.List.{sum_by}
use lib.Count as Count
use Rattle.bitrow.specs.Row.{ones_in}
use Rattle.bitrow.proofs.Rows.{ones-all}
use Rattle.bitrow.proofs.ones.Goals as goal

pub sum-requires-clause-fits : goal.sum-requires-clause-fits
sum-requires-clause-fits c =
    fits_from_length _ _ 2_305_843_009_213_693_951 18_446_744_073_709_551_616
    (at_most_from_yields_List (YieldsList-from_slice c.args.bits.now cc) (omega arith)) c.map.ensures.closure (omega arith)
    (λ x r q k. search rules)

pub returns : goal.returns
unfolding ones_in
returns c =
    let total : c.sum.result ≡ sum_by Count.ones c.args.bits.now = search rules in
    total ∙ ones-all c.args.bits.now (λ k. (c.type_inv.bits k).fits)
