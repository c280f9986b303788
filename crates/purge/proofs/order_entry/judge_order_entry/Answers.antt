-- Length and type are asked for at once, and then the one judged field. Assumes nothing.
use Rattle.octets.proofs.Proving.{◌∙◌, sym}
use Rattle.wire.specs.Layout.{blank_at, bad_place, first_bad_place}
use Rattle.wire.proofs.Found.{one}
use Rattle.wire.proofs.Verdicts.{framed-judged, unframed}
use Rattle.purge.proofs.Codec.{order_entry}
use Rattle.purge.proofs.order_entry.judge_order_entry.Goals as goal

pub returns-then-is_framed : goal.returns-then-is_framed
unfolding first_bad_place bad_place
returns-then-is_framed c =
    let s = c.args.s.now in
    framed-judged (order_entry c.args.letter) s (sym c.is_framed.ensures ∙ c.if-is_framed.true)
    (one (blank_at 9 6) s c.bad_blank.ensures) c.unless_bad.ensures

pub returns : goal.returns
returns c = unframed (order_entry c.args.letter) c.args.s.now (sym c.is_framed.ensures ∙ c.if-is_framed.false)
