-- Each test of the code is the judgement of one field. Assumes nothing.
use Rattle.octets.proofs.Proving.{◌∙◌, sym, true}
use Rattle.octets.proofs.Below.{in-row}
use Rattle.header.specs.Header.{header_of}
use Rattle.header.proofs.Judged.{number_tests, number-tests}
use Rattle.header.proofs.sound.numbers_good.Goals as goal

pub returns : goal.returns
unfolding header_of
returns c =
    let form = c in
    let start = form in
    rw (form.byte_at.ensures, start.requires)
    (in-row true (number_tests start.args.s.now) ∙ sym (number-tests start.args.s.now))
