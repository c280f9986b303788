-- Each run is put right behind the last one, and together they are the whole. Assumes nothing.
use Rattle.octets.proofs.Proving.{List, [], ◌∙◌, ◌∷◌, ◌≡◌, ap, arith, length, refl}
use Rattle.octets.proofs.Laws.{put_whole}
use Rattle.wire.specs.Layout.{Field, ◌&◌, unbroken, text_at}
use Rattle.wire.specs.Layout.{◌then◌, ends}
use Rattle.wire.proofs.Puts.{puts-at}
use Rattle.orders.specs.Runs.{opening, traded, letters, ending}
use Rattle.orders.proofs.Runs.{order-runs}
use Rattle.orders.proofs.record.put_order.Goals as goal

-- the runs as fields of bytes
abbrev runs : List Field
runs = text_at 0 28 ∷ text_at 28 20 ∷ text_at 48 8 ∷ text_at 56 24 ∷ []

pub returns : goal.returns
unfolding unbroken
returns c =
    let o = c.args.o in
    let s = c.unwrap-s.result.now in
    let whole = rw c.unwrap-s.ensures at c.as_mut_array.ensures.cases in
    let long : length s ≡ 80 = ap length whole.same ∙ whole.long in
    let put = puts-at runs (opening o & traded o.details & letters o.details & ending o.flags o.details & tt) s
    (c.put_opening.ensures then c.put_traded.ensures then c.put_letters.ensures then c.put_ending.ensures then ends)
    0 80 refl (omega (arith, long)) in
    let all = order-runs o in
    (put.0 ∙ put_whole s _ (omega (arith, put.1, long)) ∙ all, omega (arith, ap length all, put.1))
