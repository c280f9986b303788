-- An empty list is right. Assumes nothing.
use Rattle.octets.proofs.Proving.{◌≡◌, length, rules}
use Rattle.octets.specs.Choice.{all_below}
use Rattle.stocks.specs.Stocks.{places_in, size_good, list_good}
use Rattle.stocks.proofs.judge.list_good.Goals as goal

pub returns-then-is_empty : goal.returns-then-is_empty
unfolding list_good size_good places_in all_below
returns-then-is_empty c = let none : length c.args.list.now ≡ 0 = search rules in rw none (search rules)
