-- The answer is the judge's, and the fields are those of what it let through. Assumes nothing.
use Rattle.octets.proofs.Proving.{◌∙◌, ◌≡◌, ◌-◌, ap, replicate, rules, sub-zero, sym, take, ℕ}
use Rattle.std.specs.Prelude.{Err}
use Rattle.octets.specs.Bytes.{zeros}
use Rattle.octets.proofs.Laws.{take-zeros}
use Rattle.answers.specs.Answer.{is_done, if_done}
use Rattle.wire.specs.Messages.{legal_or_zeros}
use Rattle.wire.proofs.Exactly.{done-exactly}
use Rattle.wire.proofs.body.read.Goals as goal

pub parse-requires : goal.parse-requires
parse-requires g c = ((done-exactly g.M.Body.layout c.args.s.now).0 (sym c.judged-answer.ensures ∙ c.in-Ok.is)).long

pub returns-in-Err : goal.returns-in-Err
unfolding legal_or_zeros if_done is_done
returns-in-Err g c =
    let n : c.size.result - 0 ≡ g.M.Body.layout.size = sub-zero _ ∙ c.size.ensures.0 in
    let blank = ap (λ (k : ℕ). take k (zeros 80)) n ∙ take-zeros g.M.Body.layout.size 80 c.size.ensures.1 in
    let e : c.parse-in-Err.result ≡ g.M.Body.of_bytes (take (c.size.result - 0) (replicate 80 0)) = search rules in
    rw (← c.judged-answer.ensures, c.in-Err.is) (ap (λ (b : _). record { answer = Err c.in-Err.field-0; body = b }) (e ∙ ap g.M.Body.of_bytes blank))
