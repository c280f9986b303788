-- A byte that a token holds is passed, and the first other one is told. Assumes nothing.
use Rattle.octets.proofs.Proving.{◌+◌, ◌∙◌, ◌≡◌, arith, false, get_or, sym, true}
use Rattle.wire.specs.Text.{token_byte}
use Rattle.wire.specs.Layout.{bad_place}
use Rattle.wire.proofs.Tokens.{token-next, token-bad, token_end_lem}
use Rattle.wire.proofs.places.bad_token.Goals as goal

pub loop-i-preserved : goal.loop-i-preserved
loop-i-preserved c =
    let a = c.args in
    let l = c.loop-i in
    let legal : token_byte (get_or a.s.now l.i 0) ≡ true = cc in
    l.invariant ∙ token-next a.s.now (a.at + 14) l.i (omega arith) (omega arith) legal

pub returns-then-not-is_token_byte : goal.returns-then-not-is_token_byte
unfolding bad_place
returns-then-not-is_token_byte c =
    let a = c.args in
    let l = c.loop-i in
    let illegal : token_byte (get_or a.s.now l.i 0) ≡ false = cc in
    sym (l.invariant ∙ token-bad a.s.now (a.at + 14) l.i (omega arith) (omega arith) illegal)

pub returns : goal.returns
unfolding bad_place
returns c =
    let a = c.args in
    let l = c.loop-i in
    sym (l.invariant ∙ token_end_lem a.s.now (a.at + 14) l.i (omega arith))
