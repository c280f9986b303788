-- Each field is put right behind the last one. Assumes nothing.
use Rattle.octets.proofs.Proving.{arith, refl}
use Rattle.wire.specs.Layout.{unbroken}
use Rattle.wire.specs.Layout.{◌then◌, ends}
use Rattle.wire.proofs.Puts.{puts-at}
use Rattle.orders.specs.Runs.{opening_fields, opening_values, opening}
use Rattle.orders.proofs.record.put_opening.Goals as goal

pub returns : goal.returns
unfolding opening unbroken
returns c =
    let p6 = c in
    let p5 = p6 in
    let p4 = p5 in
    let p3 = p4 in
    let p2 = p3 in
    let p1 = p2 in
    let start = p1 in
    let put = puts-at opening_fields (opening_values start.args.o) start.args.s.now
    (p1.put_byte.ensures then p2.put_array.ensures then p3.put_byte-2.ensures then p4.put_be32.ensures then p5.put_be32-2.ensures then p6.put_be32-3.ensures then ends)
    0 28 refl (omega arith) in
    (put.0, omega (arith, put.1))
