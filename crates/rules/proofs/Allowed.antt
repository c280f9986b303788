-- A rule whose checks come to an answer: the plan where that is Done, and else the refusal. Assumes nothing.
use Rattle.octets.proofs.Proving.{Bool, ◌∙◌, ◌≡◌, false, sym, true}
use Rattle.answers.specs.Answer.{is_done}
use Rattle.rules.specs.Plan.{allowed, refused}
use Rattle.rules.specs.Types.{Answer, Decision}

pub allowed-done : {a b : Answer} {r : Bool} {d x : Decision} → r ≡ is_done a → r ≡ true → a ≡ b → x ≡ d → x ≡ allowed b d
unfolding allowed
allowed-done promise test same e = rw (← same, sym promise ∙ test) e

pub allowed-refused : {a b : Answer} {r : Bool} {x : Decision} (d : Decision) → r ≡ is_done a → r ≡ false → a ≡ b → x ≡ refused a
    → x ≡ allowed b d
unfolding allowed
allowed-refused d promise test same e = rw (← same, sym promise ∙ test) e
