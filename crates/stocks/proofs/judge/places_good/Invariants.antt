-- The loop's invariant: each place before i is right, and `last` is the number of the one right before it. The measure is what is left of n.
-- Assumes nothing.
use Rattle.octets.proofs.Proving.{◌-◌, ◌<◌, ◌≡◌, ◌≤◌, true}
use Rattle.octets.specs.Choice.{all_below}
use Rattle.stocks.specs.Stocks.{place_good}
use Rattle.stocks.specs.Ranks.{rank_at}
use Rattle.stocks.proofs.judge.places_good.Given as goal

abbrev pub invariant-loop-i : goal.invariant-loop-i
invariant-loop-i l = (0 < l.i) × (l.i ≤ l.n) × (l.last ≡ rank_at l.list (l.i - 1)) × (all_below l.i (place_good l.list) ≡ true)

abbrev pub decreases-loop-i : goal.decreases-loop-i
decreases-loop-i l = l.n - l.i
