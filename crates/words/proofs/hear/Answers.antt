-- Each return is the choice that its tests led to. Assumes nothing.
use Rattle.octets.proofs.Proving.{◌∙◌, sym}
use Rattle.words.specs.Words.{heard}
use Rattle.words.proofs.hear.Goals as goal

pub returns-in_err-word : goal.returns-in_err-word
unfolding heard
returns-in_err-word c = c.from_residual.ensures ∙ simp (sym c.word_of.ensures ∙ c.in_err-word.was)

pub returns-in_err-n : goal.returns-in_err-n
unfolding heard
returns-in_err-n c =
    c.from_residual-in_err-n.ensures ∙ simp (sym c.word_of.ensures ∙ c.in_ok-word.was, sym c.number_in.ensures ∙ c.in_err-n.was)

pub returns : goal.returns
unfolding heard
returns c =
    c.then_some.ensures
    ∙ simp (c.takes.ensures, c.with_word.ensures, sym c.word_of.ensures ∙ c.in_ok-word.was, sym c.number_in.ensures ∙ c.in_ok-n.was)
