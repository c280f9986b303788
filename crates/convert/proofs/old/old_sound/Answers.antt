-- A table of a good size has a whole header. Assumes nothing.
use Rattle.octets.proofs.Proving.{arith, rules}
use Rattle.convert.proofs.Former.{old-there}
use Rattle.convert.proofs.old.old_sound.Goals as goal

pub byte_at-requires : goal.byte_at-requires
byte_at-requires c = omega (arith, old-there c.args.old.now (search rules))

pub renewed-requires : goal.renewed-requires
renewed-requires c = old-there c.args.old.now (search rules)

pub are_zero-requires : goal.are_zero-requires
are_zero-requires c = omega (arith, old-there c.args.old.now (search rules))
