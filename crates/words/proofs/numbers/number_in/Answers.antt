-- What is still to be read gives the number. Assumes nothing.
use Rattle.octets.proofs.Proving.{◌∙◌, ap, arith, drop_of_length-le, sym}
use Rattle.std.specs.Prelude.{Some, None}
use Rattle.words.specs.Words.{number_from, number_in}
use Rattle.words.proofs.Laws.{none-further, one-further}
use Rattle.words.proofs.numbers.number_in.Goals as goal

pub returns-in_err-n : goal.returns-in_err-n
unfolding number_in
returns-in_err-n c =
    let l = c.loop-digit in
    let none = one-further c.args.text.now l.digit-index l.n None (omega arith) (sym c.in_err-n.was ∙ c.with_digit.ensures.0) in
    c.from_residual.ensures ∙ sym (l.invariant.1 ∙ none ∙ none-further _)

pub loop-digit-preserved : goal.loop-digit-preserved
loop-digit-preserved c =
    let l = c.loop-digit in
    let more = one-further c.args.text.now l.digit-index l.n (Some c.in_ok-n.n) (omega arith) (sym c.in_ok-n.was ∙ c.with_digit.ensures.0) in
    (c.in_ok-n.ensures.1, l.invariant.1 ∙ more)

pub returns : goal.returns
unfolding number_from number_in
returns c =
    let l = c.loop-digit in
    let none = drop_of_length-le c.args.text.now {i = l.digit-index} (omega arith) in
    sym (l.invariant.1 ∙ ap (number_from (Some l.n)) none)
