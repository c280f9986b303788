-- The loop's invariant: the place that is looked for lies among those that are left, and the halvings that are left are enough. Assumes nothing.
use Rattle.octets.proofs.Proving.{◌-◌}
use Rattle.stocks.specs.Stocks.{places_in}
use Rattle.stocks.proofs.Halving.{Among}
use Rattle.stocks.proofs.find.Listed.last_not_above.Given as goal

abbrev pub invariant-loop : goal.invariant-loop
invariant-loop l = Among l.self.bytes.now l.symbol (places_in l.self.bytes.now) l.base l.size (11 - l.counter)
