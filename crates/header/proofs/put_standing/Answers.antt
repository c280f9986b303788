-- Each field is put right behind the last one. Assumes nothing.
use Rattle.octets.proofs.Proving.{arith, refl}
use Rattle.wire.specs.Layout.{unbroken}
use Rattle.wire.specs.Layout.{◌then◌, ends}
use Rattle.wire.proofs.Puts.{puts-at}
use Rattle.header.specs.Runs.{standing_fields, standing_values, standing}
use Rattle.header.proofs.put_standing.Goals as goal

pub returns : goal.returns
unfolding standing unbroken
returns c =
    let p3 = c in
    let p2 = p3 in
    let p1 = p2 in
    let start = p1 in
    let put = puts-at standing_fields (standing_values start.args.h) start.args.s.now
    (p1.put_be64.ensures then p2.put_be32.ensures then p3.put_array.ensures then ends)
    16 60 refl (omega arith) in
    (put.0, omega (arith, put.1))
