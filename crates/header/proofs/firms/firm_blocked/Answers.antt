-- The bit of the firm's place; a byte has none past the eighth. Assumes nothing.
use Rattle.octets.proofs.Proving.{arith, rules, sym}
use Rattle.octets.proofs.BitLaws.{bit_past}
use Rattle.header.specs.Firms.{firm_place, firm_blocked}
use Rattle.header.proofs.firms.firm_blocked.Goals as goal

pub returns-then-place-lt-MOST_FIRMS : goal.returns-then-place-lt-MOST_FIRMS
unfolding firm_blocked
returns-then-place-lt-MOST_FIRMS c = cc

pub returns : goal.returns
unfolding firm_blocked
returns c =
    let a = c.args in
    sym (bit_past 8 a.h.blocked (firm_place a.h a.firm) (search rules) (omega (arith, c.firm_place-place.ensures, c.if-place-lt-MOST_FIRMS.false)))
