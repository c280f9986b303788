-- Each of the four messages that a client sends is faithful to its layout: reading and writing are each other's inverses, and the answers are
-- given exactly when the paper says. One law, cited for each. Assumes nothing.
use Rattle.wire.specs.Messages.{enter_order, replace_order, cancel_order, modify_order}
use Rattle.wire.proofs.Codec.{refl, Faithful, faithful}
use Rattle.inbound.specs.Inbound.{enter_order_made, enter_order_of, enter_order_values, enter_order_bytes, replace_order_made, replace_order_of, replace_order_values, replace_order_bytes, cancel_order_made, cancel_order_of, cancel_order_values, cancel_order_bytes, modify_order_made, modify_order_of, modify_order_values, modify_order_bytes}

pub enter-order-faithful : Faithful enter_order enter_order_of enter_order_bytes enter_order_values
unfolding enter_order_of enter_order_bytes
enter-order-faithful = faithful 0 tt enter_order_made enter_order_values (λ m. refl) (λ v. refl)

pub replace-order-faithful : Faithful replace_order replace_order_of replace_order_bytes replace_order_values
unfolding replace_order_of replace_order_bytes
replace-order-faithful = faithful 1 tt replace_order_made replace_order_values (λ m. refl) (λ v. refl)

pub cancel-order-faithful : Faithful cancel_order cancel_order_of cancel_order_bytes cancel_order_values
unfolding cancel_order_of cancel_order_bytes
cancel-order-faithful = faithful 2 tt cancel_order_made cancel_order_values (λ m. refl) (λ v. refl)

pub modify-order-faithful : Faithful modify_order modify_order_of modify_order_bytes modify_order_values
unfolding modify_order_of modify_order_bytes
modify-order-faithful = faithful 3 tt modify_order_made modify_order_values (λ m. refl) (λ v. refl)
