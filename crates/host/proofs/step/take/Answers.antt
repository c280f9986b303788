-- A sound table's header is within its limits, and a legal entry holds a stamp. Assumes nothing.
use Rattle.octets.proofs.Proving.{ap, arith}
use Rattle.header.specs.declared.Header.{Header}
use Rattle.table.proofs.Soundness.{of-sound}
use Rattle.tape.proofs.Formed.{stamp-fits}
use Rattle.host.proofs.Offers.{judged-good}
use Rattle.host.proofs.step.take.Goals as goal

pub stamp_of-stamp-requires : goal.stamp_of-stamp-requires
stamp_of-stamp-requires c = stamp-fits _ (judged-good _ c.requires.1.1.1).0

pub settle-requires : goal.settle-requires
settle-requires c =
    let s = of-sound _ c.requires.0 in
    let used = ap (λ (x : Header). x.used) c.header-h.ensures in
    let reference = ap (λ (x : Header). x.reference) c.header-h.ensures in (
      c.requires.1.0,
      (
        c.requires.1.1.0,
        (c.header-h.ensures, (omega (arith, used, s.head.used, s.size.most), omega (arith, reference, s.head.highest-reference))),
      ),
    )
