-- 32 bytes are asked, one more in each turn; together they are the token's. Assumes nothing.
use Rattle.octets.proofs.Proving.{Bool, ◌||◌, ◌∙◌, ◌≡◌, ap, arith, eqb, leb, refl}
use Rattle.octets.specs.Choice.{all_below}
use Rattle.octets.proofs.Below.{all-next}
use Rattle.orders.proofs.Judged.{token_place, token-tests}
use Rattle.orders.proofs.sound.token_legal.Goals as goal

pub loop-k-init : goal.loop-k-init
unfolding all_below
loop-k-init c = refl

pub loop-k-preserved : goal.loop-k-preserved
loop-k-preserved c =
    let r = c.args.r.now in
    let k = c.loop-k.k in
    all-next (token_place r) k c.loop-k.invariant (ap (λ (t : Bool). eqb k 0 || leb 15 k || t) c.is_token_byte.ensures)

pub returns : goal.returns
returns c =
    let r = c.args.r.now in
    let e : c.loop-k.k ≡ 32 = omega arith in
    c.loop-k.invariant ∙ ap (λ n. all_below n (token_place r)) e ∙ token-tests r (omega arith)
