-- Each return is the guard that its tests led to. Assumes nothing.
use Rattle.octets.proofs.Proving.{◌∙◌, sym}
use Rattle.octets.specs.Choice.{text}
use Rattle.words.specs.Words.{word_of}
use Rattle.words.proofs.word_of.Goals as goal

pub returns-then-is_word : goal.returns-then-is_word
unfolding word_of text
returns-then-is_word c = simp (sym c.is_word.ensures ∙ c.if-is_word.true)

pub returns-then-is_word-2 : goal.returns-then-is_word-2
unfolding word_of text
returns-then-is_word-2 c = simp (sym c.is_word.ensures ∙ c.if-is_word.false, sym c.is_word-else-is_word.ensures ∙ c.if-is_word-2.true)

pub returns-then-is_word-3 : goal.returns-then-is_word-3
unfolding word_of text
returns-then-is_word-3 c =
    simp (
      sym c.is_word.ensures ∙ c.if-is_word.false,
      sym c.is_word-else-is_word.ensures ∙ c.if-is_word-2.false,
      sym c.is_word-else-is_word-2.ensures ∙ c.if-is_word-3.true,
    )

pub returns-else-is_word-3 : goal.returns-else-is_word-3
unfolding word_of text
returns-else-is_word-3 c =
    simp (
      sym c.is_word.ensures ∙ c.if-is_word.false,
      sym c.is_word-else-is_word.ensures ∙ c.if-is_word-2.false,
      sym c.is_word-else-is_word-2.ensures ∙ c.if-is_word-3.false,
    )
