-- Each run is put right behind the last one, and together they are the whole. Assumes nothing.
use Rattle.octets.proofs.Proving.{List, [], ◌∙◌, ◌∷◌, ap, arith, length, refl}
use Rattle.octets.proofs.Laws.{put_whole}
use Rattle.wire.specs.Layout.{Field, ◌&◌, unbroken, text_at}
use Rattle.wire.specs.Layout.{◌then◌, ends}
use Rattle.wire.proofs.Puts.{puts-at}
use Rattle.header.specs.Runs.{moments, standing}
use Rattle.header.proofs.Runs.{header-runs}
use Rattle.header.proofs.put_header.Goals as goal

-- the runs as fields of bytes
abbrev runs : List Field
runs = text_at 0 16 ∷ text_at 16 44 ∷ []

pub returns : goal.returns
unfolding unbroken
returns c =
    let p2 = c in
    let p1 = p2 in
    let start = p1 in
    let h = start.args.h in
    let put = puts-at runs (moments h & standing h & tt) start.args.s.now
    (p1.put_moments.ensures then p2.put_standing.ensures then ends)
    0 60 refl (omega arith) in
    let all = header-runs h in
    (put.0 ∙ put_whole start.args.s.now _ (omega (arith, put.1)) ∙ all, omega (arith, ap length all, put.1))
