-- What finding the order that an entry names rests on. Assumes nothing.
use Rattle.octets.proofs.Proving.{leb-true}
use Rattle.orders.proofs.Wanting.{wanted-live}
use Rattle.table.proofs.Finding.{by-the-bits}
use Rattle.tape.proofs.Formed.{purge-long}

pub ruleset named = (leb-true, wanted-live, by-the-bits, purge-long)
