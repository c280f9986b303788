-- Everything that specs/ defines, open at once, for proofs by computation. Assumes nothing.
use Rattle.stamping.specs.Stamping.{heard, kind_for, body_for, entry_for, stamp_answer, stamp_after}

unfoldable pub opened : Unit {0}
unfolding heard kind_for body_for entry_for stamp_answer stamp_after
opened = tt
