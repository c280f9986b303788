-- The walk, and where it finds nothing wrong, the bits and the sum. Assumes nothing.
use Rattle.octets.proofs.Proving.{◌∙◌, arith, sym}
use Rattle.octets.specs.Choice.{all_below}
use Rattle.orders.specs.Sound.{record_sound}
use Rattle.orders.proofs.Told.{none-told, some-told}
use Rattle.table.specs.Table.{record_bytes, sum_good}
use Rattle.table.specs.Walk.{found_in}
use Rattle.table.proofs.Stored.{used-within, bits-there}
use Rattle.table.proofs.Soundness.{of_size, head-fits}
use Rattle.table.proofs.Judging.{bits-split}
use Rattle.table.proofs.sound.records_sound.Goals as goal

pub walk-requires : goal.walk-requires
walk-requires c =
    let t = c.args.table.now in
    let size = of_size t c.requires in
    (omega (arith, used-within t, c.used-n.ensures, bits-there t (head-fits t size)), omega (arith, used-within t, c.used-n.ensures, size.most))

pub bits_agree-requires : goal.bits_agree-requires
bits_agree-requires c = omega (arith, used-within c.args.table.now, c.used-n.ensures)

pub open_sum-requires : goal.open_sum-requires
open_sum-requires c = head-fits c.args.table.now (of_size c.args.table.now c.requires)

pub returns-in_default : goal.returns-in_default
unfolding found_in
returns-in_default c =
    let t = c.args.table.now in
    rw (← c.used-n.ensures, none-told (all_below c.used-n.result (λ i. record_sound (record_bytes t i))) _ (sym c.in_default.is ∙ c.walk.ensures))

pub returns : goal.returns
unfolding found_in sum_good
returns c =
    let t = c.args.table.now in
    let told = some-told (all_below c.used-n.result (λ i. record_sound (record_bytes t i))) _ (sym c.in-Some.is ∙ c.walk.ensures) in
    rw (bits-split t (used-within t), ← c.used-n.ensures, told.0, c.bits_agree.ensures, c.clear_from.ensures, c.bit_bytes.ensures, c.open_sum.ensures, told.1)
