-- Everything that specs/ defines, open at once, for proofs by computation. Assumes nothing.
use Rattle.purge.specs.Purge.{mass_cancel_of, mass_cancel_bytes, order_entry_of, order_entry_bytes}

unfoldable pub opened : Unit {0}
unfolding mass_cancel_of mass_cancel_bytes order_entry_of order_entry_bytes
opened = tt
