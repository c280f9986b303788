-- Everything that specs/ defines, open at once, for proofs by computation. Assumes nothing.
use Rattle.answers.specs.Answer.{is_done, if_done}

unfoldable pub opened : Unit {0}
unfolding is_done if_done
opened = tt
