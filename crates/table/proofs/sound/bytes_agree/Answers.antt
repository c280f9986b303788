-- A byte of bits is asked in each turn, and with it eight records. Assumes nothing.
use Rattle.octets.proofs.Proving.{List, ◌*◌, ◌<◌, ◌^◌, arith, get_or, refl, subst, ℕ}
use Rattle.octets.specs.Choice.{all_below}
use Rattle.table.specs.Table.{bit_bytes}
use Rattle.table.proofs.Stored.{covers}
use Rattle.table.proofs.Judging.{eight-more}
use Rattle.table.proofs.sound.bytes_agree.Goals as goal

pub loop-at-init : goal.loop-at-init
unfolding all_below
loop-at-init c = refl

pub bounds-bits-at : goal.bounds-bits-at
bounds-bits-at c = rw c.bit_bytes-bits.ensures (omega (arith, covers c.args.table.now (8 * c.args.m) c.requires))

pub loop-at-preserved : goal.loop-at-preserved
loop-at-preserved c =
    let t = c.args.table.now in
    let l = c.loop-at in
    let bits = c.bit_bytes-bits.ensures in
    let small : get_or (bit_bytes t) l.at 0 < 2 ^ 8 = subst (λ (b : List ℕ). get_or b l.at 0 < 2 ^ 8) bits (omega (arith, c.type_inv.bits l.at)) in
    rw (c.eight_live.ensures, bits) (eight-more t l.at small l.invariant)
