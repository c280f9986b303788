-- A stamp, and what is judged behind it. Assumes nothing.
use Rattle.octets.proofs.Proving.{◌∙◌, ap, sym}
use Rattle.wire.specs.Layout.{stamp_at}
use Rattle.wire.proofs.Found.{behind}
use Rattle.tape.specs.Kinds.{kind_of}
use Rattle.tape.specs.Entries.{bad_place_of}
use Rattle.tape.specs.Behind.{behind_of, judged_fields}
use Rattle.tape.proofs.Formed.{formed, stamp-fits, within, judged}
use Rattle.tape.proofs.judging.first_bad.Goals as goal

pub bad_behind-requires : goal.bad_behind-requires
bad_behind-requires c =
    let s = c.args.entry.now in
    let b = c.behind_of.ensures ∙ ap behind_of c.requires.0 in
    rw b (rw (formed s c.requires.1).long (within (kind_of s)))

pub returns : goal.returns
unfolding bad_place_of
returns c =
    let s = c.args.entry.now in
    let b = c.behind_of.ensures ∙ ap behind_of c.requires.0 in
    behind (stamp_at 1) (judged_fields (behind_of (kind_of s))) s c.or.ensures c.bad_stamp.ensures
    (rw b at c.bad_behind.ensures)
    ∙ sym (judged (kind_of s) s (formed s c.requires.1).known)

pub bad_stamp-requires : goal.bad_stamp-requires
bad_stamp-requires c = stamp-fits _ c.requires.1
