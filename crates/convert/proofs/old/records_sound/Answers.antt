-- What the walk over the used records finds. Assumes nothing.
use Rattle.octets.proofs.Proving.{List, ◌≤◌, arith, ℕ}
use Rattle.octets.specs.Choice.{all_below}
use Rattle.orders.specs.Sound.{record_sound}
use Rattle.orders.proofs.Told.{whether-told}
use Rattle.table.specs.Table.{record_bytes}
use Rattle.table.specs.Walk.{found_in}
use Rattle.convert.specs.Old.{old_records, old_used}
use Rattle.convert.proofs.Former.{of-old-size}
use Rattle.convert.proofs.old.records_sound.Goals as goal

few : (old : List ℕ) → old_used old ≤ old_records old
unfolding old_used
few old = omega arith

pub walk-requires : goal.walk-requires
walk-requires c =
    let old = c.args.old.now in
    let size = of-old-size old c.requires in
    (omega (arith, few old, c.old_used.ensures, size.long), omega (arith, few old, c.old_used.ensures, size.most))

pub returns : goal.returns
unfolding found_in
returns c =
    let old = c.args.old.now in
    rw (c.is_some.ensures, c.walk.ensures, c.old_used.ensures) (whether-told (all_below (old_used old) (λ i. record_sound (record_bytes old i))) _)
