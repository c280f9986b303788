-- The answer is asked first, and only done writes. Assumes nothing.
use Rattle.std.specs.Prelude.{Err}
use Rattle.octets.proofs.Proving.{List, ◌∙◌, ◌≡◌, ap₂, arith, length, refl, rules, sym, ℕ}
use Rattle.answers.specs.Answer.{is_done, if_done}
use Rattle.convert.specs.Old.{old_used}
use Rattle.convert.specs.Convert.{with_orders, converted}
use Rattle.convert.proofs.Answered.{room}
use Rattle.convert.proofs.convert.Goals as goal

pub returns-in_err-convert_answer : goal.returns-in_err-convert_answer
unfolding converted if_done is_done
returns-in_err-convert_answer c =
    let e : c.from_residual.result ≡ Err c.in_err-convert_answer.field-0.0 = search rules in
    rw (e, sym c.convert_answer.ensures ∙ c.in_err-convert_answer.was) (refl, refl)

pub carry-requires : goal.carry-requires
carry-requires c = room c.args.old.now (length c.args.table.now) (sym c.convert_answer.ensures ∙ c.in_ok-convert_answer.was)

pub store_orders-requires : goal.store_orders-requires
unfolding old_used
store_orders-requires c = omega (arith, c.old_used.ensures)

pub returns : goal.returns
unfolding converted if_done is_done
returns c =
    let old = c.args.old.now in
    rw (sym c.convert_answer.ensures ∙ c.in_ok-convert_answer.was)
    (refl, c.store_orders.ensures ∙ ap₂ (λ (n : ℕ) (t : List ℕ). with_orders old n t) c.old_used.ensures c.carry.ensures)
