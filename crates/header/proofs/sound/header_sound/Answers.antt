-- The numbers are judged first; then the used records against the length, the firms, and their bits against the count that was judged. Assumes
-- nothing.
use Rattle.octets.proofs.Proving.{[], ◌^◌, ◌∷◌, answered, ap, arith, leb, ltb}
use Rattle.octets.proofs.Below.{in-row}
use Rattle.header.specs.Header.{Header, header_of}
use Rattle.header.specs.Firms.{firms_shaped, rest_blank}
use Rattle.header.specs.Sound.{header_sound}
use Rattle.header.proofs.Judged.{count-judged}
use Rattle.header.proofs.sound.header_sound.Goals as goal

pub none_from-requires : goal.none_from-requires
none_from-requires c =
    let numbers = c in
    let h = numbers in
    let judged = count-judged h.args.s.now (answered numbers.numbers_good.ensures c.if-numbers_good.true) in
    omega (arith, judged, ap (λ (r : Header). r.count) h.header_of-h.ensures)

pub returns-then-numbers_good : goal.returns-then-numbers_good
unfolding header_sound
returns-then-numbers_good c =
    let numbers = c in
    let h = numbers in
    let s = h.args.s.now in
    rw (answered numbers.numbers_good.ensures c.if-numbers_good.true, c.none_from.ensures, c.rest_blank.ensures, c.firms_shaped.ensures, h.header_of-h.ensures)
    (in-row (leb (header_of s).used h.args.records) (firms_shaped (header_of s).firms (header_of s).count ∷ rest_blank (header_of s).firms (header_of s).count ∷ ltb (header_of s).blocked (2 ^ (header_of s).count) ∷ []))

pub returns-else-numbers_good : goal.returns-else-numbers_good
unfolding header_sound
returns-else-numbers_good c = rw (answered c.numbers_good.ensures c.if-numbers_good.false) cc
