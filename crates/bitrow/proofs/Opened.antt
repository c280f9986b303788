-- Everything that specs/ defines, open at once, for proofs by computation. Assumes nothing.
use Rattle.bitrow.specs.Row.{bytes_for, bit_at, with_bit_at, ones_in, clear_from, packed}

unfoldable pub opened : Unit {0}
unfolding bytes_for bit_at with_bit_at ones_in clear_from packed
opened = tt
