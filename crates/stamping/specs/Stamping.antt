-- An entry of the tape, made from a message and the time at which it came (Ask 5): the four messages of a client under their own letters, and
-- the purge port's three as w, d and n.
use Rattle.std.specs.Prelude.{ℕ, Bool, List, ◌∷◌, ◌++◌, length, get_or, drop, ltb, eqb, Option, None, Some}
use Rattle.octets.specs.Choice.{pick, first_of◌, ◌⇒◌⨾◌}
use Rattle.octets.specs.Bytes.{part, digits}
use Rattle.answers.specs.Answer.{if_done}
use Rattle.answers.specs.Answer.{Answer}
use Rattle.answers.specs.Answer.{Done, Malformed, NoRoom}
use Rattle.wire.specs.Layout.{Layout, layout_for}
use Rattle.wire.specs.Messages.{inbound, read_answer}
use Rattle.purge.specs.Purge.{mass_cancel, disable, requests}
use Rattle.tape.specs.Kinds.{purge_entry, disable_entry, enable_entry}

-- the messages that a port takes
abbrev pub takes : Bool → List Layout
takes purge = pick purge requests inbound

abbrev pub read_as : Option Layout → List ℕ → Answer
read_as None m = Malformed
read_as (Some l) m = read_answer l m

-- what the message's own reader answers; 2 where the port takes none of this type
unfoldable pub heard : Bool → List ℕ → Answer
heard purge m = read_as (layout_for (takes purge) (get_or m 0 0)) m

-- the kind of its entry
unfoldable pub kind_for : Bool → ℕ → ℕ
kind_for purge letter =
    pick purge
    (first_of
    eqb letter mass_cancel.code ⇒ purge_entry.code
    ⨾ eqb letter disable.code ⇒ disable_entry.code
    ⨾ enable_entry.code)
    letter

-- what stands behind the stamp: of a client's message all but its type, of the purge port's the firm and, if it has one, the symbol
unfoldable pub body_for : Bool → List ℕ → List ℕ
body_for purge m =
    pick purge
    (first_of
    eqb (get_or m 0 0) mass_cancel.code ⇒ part m 5 4 ++ part m 15 8
    ⨾ part m 5 4)
    (drop 1 m)

-- the stamp as it is given: whether it is one, and not before the last, is asked where the entry is taken
unfoldable pub entry_for : Bool → ℕ → List ℕ → List ℕ
entry_for purge stamp m = kind_for purge (get_or m 0 0) ∷ (digits 8 stamp ++ body_for purge m)

-- the reader's answers (2, 3), then room for the entry (13)
unfoldable pub stamp_answer : Bool → ℕ → List ℕ → List ℕ → Answer
stamp_answer purge stamp m buffer =
    if_done (heard purge m) (ltb (length buffer) (length (entry_for purge stamp m)) ⇒ NoRoom ⨾ Done) (heard purge m)

-- the entry in front, and what is behind it stays; where the call is refused, all of it
unfoldable pub stamp_after : Bool → ℕ → List ℕ → List ℕ → List ℕ
stamp_after purge stamp m buffer =
    let entry = entry_for purge stamp m in
    if_done (stamp_answer purge stamp m buffer) (entry ++ drop (length entry) buffer) buffer
