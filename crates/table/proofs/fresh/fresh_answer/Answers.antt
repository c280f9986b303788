-- The first that applies. Assumes nothing.
use Rattle.octets.proofs.Proving.{◌∙◌, refl, sym}
use Rattle.table.specs.Fresh.{fresh_answer}
use Rattle.table.proofs.fresh.fresh_answer.Goals as goal

pub returns-then-not-size_good : goal.returns-then-not-size_good
unfolding fresh_answer
returns-then-not-size_good c = rw (sym c.size_good.ensures ∙ c.if-not-size_good.true) refl

pub returns-then-not-settings_good : goal.returns-then-not-settings_good
unfolding fresh_answer
returns-then-not-settings_good c =
    rw (sym c.size_good.ensures ∙ c.if-not-size_good.false, sym c.settings_good.ensures ∙ c.if-not-settings_good.true) refl

pub returns : goal.returns
unfolding fresh_answer
returns c = rw (sym c.size_good.ensures ∙ c.if-not-size_good.false, sym c.settings_good.ensures ∙ c.if-not-settings_good.false) refl
