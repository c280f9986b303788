-- A blank firm is four spaces. Assumes nothing.
use Rattle.octets.proofs.Proving.{◌∙◌, arith}
use Rattle.header.specs.Firms.{is_blank}
use Rattle.header.proofs.Compared.{compared-all}
use Rattle.header.proofs.firms.is_blank.Goals as goal

pub returns : goal.returns
unfolding is_blank
returns c = c.eq.ensures ∙ compared-all 32 c.args.firm 4 (omega arith)
