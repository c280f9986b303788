-- The answer is asked first, and only done writes. Assumes nothing.
use Rattle.std.specs.Prelude.{Err}
use Rattle.octets.proofs.Proving.{◌∙◌, ◌≡◌, refl, rules, sym}
use Rattle.answers.specs.Answer.{is_done, if_done}
use Rattle.table.specs.Fresh.{fresh_table}
use Rattle.table.proofs.fresh.fresh.Goals as goal

pub returns-in_err-fresh_answer : goal.returns-in_err-fresh_answer
unfolding fresh_table if_done is_done
returns-in_err-fresh_answer c =
    let e : c.from_residual.result ≡ Err c.in_err-fresh_answer.field-0.0 = search rules in
    rw (e, sym c.fresh_answer.ensures ∙ c.in_err-fresh_answer.was) (refl, refl)

pub returns : goal.returns
unfolding fresh_table if_done is_done
returns c = rw (sym c.fresh_answer.ensures ∙ c.in_ok-fresh_answer.was) (refl, c.begin.ensures)
