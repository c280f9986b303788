-- Length and type are asked for at once, and then the two judged fields, in their order. Assumes nothing.
use Rattle.octets.proofs.Proving.{◌∙◌, sym}
use Rattle.wire.specs.Layout.{blank_at, range_at, bad_place, first_bad_place}
use Rattle.wire.proofs.Found.{two}
use Rattle.wire.proofs.Verdicts.{framed-judged, unframed}
use Rattle.purge.proofs.Codec.{mass_cancel}
use Rattle.purge.proofs.mass_cancel.MassCancelBody.judged.Goals as goal

pub returns-then-is_framed : goal.returns-then-is_framed
unfolding first_bad_place bad_place
returns-then-is_framed c =
    let s = c.args.s.now in
    framed-judged mass_cancel s (sym c.is_framed.ensures ∙ c.if-is_framed.true)
    (two (blank_at 9 6) (range_at 23 2 0 0) s c.or.ensures c.bad_blank.ensures c.bad_nonzero.ensures) c.unless_bad.ensures

pub returns : goal.returns
returns c = unframed mass_cancel c.args.s.now (sym c.is_framed.ensures ∙ c.if-is_framed.false)
