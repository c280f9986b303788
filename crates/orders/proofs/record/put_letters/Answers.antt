-- Each field is put right behind the last one. Assumes nothing.
use Rattle.octets.proofs.Proving.{arith, refl}
use Rattle.wire.specs.Layout.{unbroken}
use Rattle.wire.specs.Layout.{◌then◌, ends}
use Rattle.wire.proofs.Puts.{puts-at}
use Rattle.orders.specs.Runs.{letter_fields, letter_values, letters}
use Rattle.orders.proofs.record.put_letters.Goals as goal

pub returns : goal.returns
unfolding letters unbroken
returns c =
    let p5 = c in
    let p4 = p5 in
    let p3 = p4 in
    let p2 = p3 in
    let p1 = p2 in
    let start = p1 in
    let put = puts-at letter_fields (letter_values start.args.details) start.args.s.now
    (p1.put_byte.ensures then p2.put_byte-2.ensures then p3.put_byte-3.ensures then p4.put_be32.ensures then p5.put_byte-4.ensures then ends)
    48 56 refl (omega arith) in
    (put.0, omega (arith, put.1))
