-- Everything that specs/ defines, open at once, for proofs by computation. Assumes nothing.
use Rattle.inbound.specs.Inbound.{enter_order_of, enter_order_bytes, replace_order_of, replace_order_bytes, cancel_order_of, cancel_order_bytes, modify_order_of, modify_order_bytes}

unfoldable pub opened : Unit {0}
unfolding enter_order_of enter_order_bytes replace_order_of replace_order_bytes cancel_order_of cancel_order_bytes modify_order_of modify_order_bytes
opened = tt
