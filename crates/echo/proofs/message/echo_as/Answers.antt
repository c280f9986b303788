-- A refused message keeps what was lent, and a legal one is written as it was. Assumes nothing.
use Rattle.std.specs.Prelude.{Err}
use Rattle.octets.proofs.Proving.{◌∙◌, ◌≡◌, arith, rules, sym}
use Rattle.echo.proofs.Laws.{kept, back}
use Rattle.echo.proofs.message.echo_as.Goals as goal

pub returns-in_err-m : goal.returns-in_err-m
returns-in_err-m g c =
    let e : c.from_residual.result ≡ Err c.in_err-m.field-0.0 = search rules in
    let given = rw c.read.ensures at c.legal.ensures in
    rw e (kept g.M.Body.layout c.args.s.now c.args.out.now _ (sym given ∙ c.in_err-m.was))

pub returns : goal.returns
returns g c =
    let given = rw c.read.ensures at c.legal.ensures in
    back g.M.Body.layout c.args.s.now c.args.out.now g.met.M.Written.faithful.1 (λ i. omega (arith, c.type_inv.s i)) (sym given ∙ c.in_ok-m.was) c.write.ensures
