-- The symbol's place, and the one byte put there. Assumes nothing.
use Rattle.octets.proofs.Proving.{[], ◌≡◌, ◌∙◌, ◌∷◌, add-one, arith, refl, set, set_split}
use Rattle.octets.specs.Bytes.{put}
use Rattle.stocks.specs.Stocks.{places_in, state_place}
use Rattle.stocks.proofs.Told.{set_there, set-nowhere}
use Rattle.stocks.proofs.set.set_state.Goals as goal

pub returns-in-Some : goal.returns-in-Some
unfolding places_in
returns-in-Some c =
    let a = c.args in
    let l = a.list.now in
    let i = c.in-Some.i in
    let one : set l (state_place i) a.state ≡ put l (state_place i) (a.state ∷ []) = rw (set_split l (state_place i) a.state (omega (arith, c.in-Some.ensures.1)), add-one) in
    one ∙ set_there l a.symbol i c.in-Some.ensures.0 a.state c.in-Some.ensures.1

pub returns-in_default : goal.returns-in_default
returns-in_default c = let a = c.args in set-nowhere a.list.now a.symbol _ refl a.state (omega (arith, c.in_default.ensures))
