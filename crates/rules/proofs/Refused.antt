-- What was refused has the answer that it was refused with, and its plan changes nothing. Assumes nothing.
use Rattle.std.specs.Prelude.{Ok, Err}
use Rattle.octets.proofs.Proving.{◌≡◌, refl}
use Rattle.rules.specs.Plan.{refused, answer_of, plan_of, empty_plan}
use Rattle.rules.specs.Types.{Answer, Refusal}

pub refusal-plan : (r : Refusal) → plan_of (Err r) ≡ empty_plan
refusal-plan r = refl

pub refused-answer : (a : Answer) → answer_of (refused a) ≡ a
unfolding refused
refused-answer (Ok tt) = refl
refused-answer (Err r) = refl

pub refused-plan : (a : Answer) → plan_of (refused a) ≡ empty_plan
unfolding refused
refused-plan (Ok done) = refl
refused-plan (Err r) = refl
