-- The byte's bit, or past the row none. Assumes nothing.
use Rattle.octets.proofs.Proving.{◌≡◌, ◌≤◌, ◌*◌, arith, length, false}
use Rattle.std.proofs.lemmas.Grind.{common_steps}
use Rattle.bitrow.specs.Row.{bit_at}
use Rattle.bitrow.proofs.Rows.{bit-past-row}
use Rattle.bitrow.proofs.bit_at.Goals as goal

pub returns : goal.returns
unfolding bit_at
returns c =
    let past : 8 * length c.args.bits.now ≤ c.args.i → bit_at c.args.bits.now c.args.i ≡ false = bit-past-row c.args.bits.now c.args.i in
    grind (arith, common_steps, past)
