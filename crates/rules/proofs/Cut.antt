-- Where the new open is below the present one, liable cut by the difference is what is gone and the new open. Assumes nothing.
use Rattle.octets.proofs.Proving.{◌<◌, ◌≡◌, ap, arith, ℕ}
use Rattle.wire.specs.Shares.{total, ◌grown_by◌}
use Rattle.orders.specs.Counts.{gone, open_shares, with_liable, cut}
use Rattle.rules.specs.Cancel.{new_open, decrement}
use Rattle.rules.specs.Types.{Order, Total}

pub cut-to : (o : Order) (size : Total) → (new_open o size).0 < (open_shares o.shares).0
    → cut o.shares (decrement o size) ≡ with_liable o.shares (gone o.shares grown_by new_open o size)
unfolding cut decrement open_shares
cut-to o size smaller = ap (λ (n : ℕ). with_liable o.shares (total n)) (omega (arith, smaller))
