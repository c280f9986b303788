-- Each field is put right behind the last one. Assumes nothing.
use Rattle.octets.proofs.Proving.{arith, refl}
use Rattle.wire.specs.Layout.{unbroken}
use Rattle.wire.specs.Layout.{◌then◌, ends}
use Rattle.wire.proofs.Puts.{puts-at}
use Rattle.orders.specs.Runs.{traded_fields, traded_values, traded}
use Rattle.orders.proofs.record.put_traded.Goals as goal

pub returns : goal.returns
unfolding traded unbroken
returns c =
    let p4 = c in
    let p3 = p4 in
    let p2 = p3 in
    let p1 = p2 in
    let start = p1 in
    let put = puts-at traded_fields (traded_values start.args.details) start.args.s.now
    (p1.put_array.ensures then p2.put_be32.ensures then p3.put_be32-2.ensures then p4.put_array-2.ensures then ends)
    28 48 refl (omega arith) in
    (put.0, omega (arith, put.1))
