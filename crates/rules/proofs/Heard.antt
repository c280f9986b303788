-- What a Cancel's tests tell where they let it pass. Assumes nothing.
use Rattle.octets.proofs.Proving.{◌<◌, ◌≡◌, false, ltb-true, not, not-false, or_left, or_right, true}
use Rattle.orders.specs.Counts.{open_shares}
use Rattle.orders.specs.Order.{is_live}
use Rattle.rules.specs.Cancel.{new_open, cancel_ignored}
use Rattle.rules.specs.Types.{Order, Total}

module _ (o : Order) (size : Total) (heard : cancel_ignored o size ≡ false) where
  pub cancel-live : is_live o ≡ true
  unfolding cancel_ignored
  cancel-live = not-false _ (or_left _ _ (or_left _ _ heard))

  pub cancel-smaller : (new_open o size).0 < (open_shares o.shares).0
  unfolding cancel_ignored
  cancel-smaller = ltb-true _ _ (not-false _ (or_right (not (is_live o)) _ (or_left _ _ heard)))
