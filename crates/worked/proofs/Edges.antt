-- Both sides of the paper's sentences hold of the rules: each side computes. Assumes nothing.
use mathlib.Core.Path.{◌≡◌, refl}
use mathlib.Core.Bool.{true}
use Rattle.worked.specs.Case.{all_hold}
use Rattle.worked.specs.Edges.{enter_edges, replace_edges, cancel_edges, size_edges, modify_edges, taken_edges, cross_edges, answer_edges}
use Rattle.worked.proofs.Below.{below}
use Rattle.worked.proofs.Opened.{opened}

pub enter-edges-hold : all_hold enter_edges ≡ true
unfolding below opened
enter-edges-hold = refl

pub replace-edges-hold : all_hold replace_edges ≡ true
unfolding below opened
replace-edges-hold = refl

pub cancel-edges-hold : all_hold cancel_edges ≡ true
unfolding below opened
cancel-edges-hold = refl

pub size-edges-hold : all_hold size_edges ≡ true
unfolding below opened
size-edges-hold = refl

pub modify-edges-hold : all_hold modify_edges ≡ true
unfolding below opened
modify-edges-hold = refl

pub taken-edges-hold : all_hold taken_edges ≡ true
unfolding below opened
taken-edges-hold = refl

pub cross-edges-hold : all_hold cross_edges ≡ true
unfolding below opened
cross-edges-hold = refl

pub answer-edges-hold : all_hold answer_edges ≡ true
unfolding below opened
answer-edges-hold = refl
