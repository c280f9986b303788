-- A refused message answers, and nothing changes; of one that is let through the entry is made. Assumes nothing.
use Rattle.std.specs.Prelude.{Err}
use Rattle.octets.proofs.Proving.{◌∙◌, ◌≡◌, refl, rules, sym}
use Rattle.answers.specs.Answer.{is_done}
use Rattle.stamping.proofs.Answers.{refused}
use Rattle.stamping.proofs.stamped.Goals as goal

pub made-requires : goal.made-requires
made-requires c = sym c.heard.ensures ∙ c.in_ok-heard.was

pub returns-in_err-heard : goal.returns-in_err-heard
unfolding is_done
returns-in_err-heard c =
    let a = c.args in
    let e : c.from_residual.result ≡ Err c.in_err-heard.field-0.0 = search rules in
    rw e (refused a.purge a.stamp a.message.now a.entry.now (sym c.in_err-heard.was ∙ c.heard.ensures) refl)
