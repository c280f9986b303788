-- Everything that specs/ defines, open at once, for proofs by computation. Assumes nothing.
use Rattle.stocks.specs.Stocks.{places_in, symbol_at, state_at, size_good, ◌before◌, place_good, list_good, has_symbol, place_of, standing_in, with_state}
use Rattle.stocks.specs.Ranks.{rank_at}

unfoldable pub opened : Unit {0}
unfolding places_in symbol_at state_at size_good ◌before◌ place_good list_good has_symbol place_of standing_in with_state rank_at
opened = tt
