-- The one answer after which an entry is offered again (demand 3).
use Rattle.std.specs.Prelude.{Bool, eqb}
use Rattle.answers.specs.Answer.{answer_number}
use Rattle.answers.specs.Answer.{Answer}
use Rattle.answers.specs.Answer.{Blocked}

abbrev pub is_blocked : Answer → Bool
is_blocked a = eqb (answer_number a) (answer_number Blocked)
