-- The examples hold: each side computes. Assumes nothing.
use mathlib.Core.Path.{◌≡◌, refl}
use mathlib.Core.Bool.{true}
use Rattle.octets.specs.Choice.{every}
use Rattle.octets.proofs.Opened.{opened as octets}
use Rattle.answers.proofs.Opened.{opened as answers}
use Rattle.bitrow.proofs.Opened.{opened as bitrow}
use Rattle.wire.proofs.Opened.{opened as wire}
use Rattle.header.proofs.Opened.{opened as header}
use Rattle.orders.proofs.Opened.{opened as orders}
use Rattle.table.proofs.Opened.{opened as table}
use Rattle.convert.specs.Example.{examples}
use Rattle.convert.proofs.Opened.{opened}

pub examples-hold : every examples ≡ true
unfolding octets answers bitrow wire header orders table opened
examples-hold = refl
