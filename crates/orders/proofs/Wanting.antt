-- What is wanted is live, so that whoever looks for it may pass over what is not. Assumes nothing.
use Rattle.octets.proofs.Proving.{◌≡◌, true}
use Rattle.octets.proofs.Below.{both}
use Rattle.orders.specs.Order.{Order, is_live}
use Rattle.orders.specs.Wanted.{Wanted, is_wanted}

pub wanted-live : (w : Wanted) (o : Order) → is_wanted w o ≡ true → is_live o ≡ true
unfolding is_wanted
wanted-live w o h = (both (is_live o) _ h).0
