-- Each field is put right behind the last one. Assumes nothing.
use Rattle.octets.proofs.Proving.{arith, refl}
use Rattle.wire.specs.Layout.{unbroken}
use Rattle.wire.specs.Layout.{◌then◌, ends}
use Rattle.wire.proofs.Puts.{puts-at}
use Rattle.orders.specs.Runs.{ending_fields, ending_values, ending}
use Rattle.orders.proofs.record.put_ending.Goals as goal

pub returns : goal.returns
unfolding ending unbroken
returns c =
    let p4 = c in
    let p3 = p4 in
    let p2 = p3 in
    let p1 = p2 in
    let start = p1 in
    let put = puts-at ending_fields (ending_values start.args.flags start.args.details) start.args.s.now
    (p1.put_be64.ensures then p2.put_byte.ensures then p3.put_array.ensures then p4.put_byte-2.ensures then ends)
    56 80 refl (omega arith) in
    (put.0, omega (arith, put.1))
