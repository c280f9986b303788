-- What setting a state keeps (Ask 2): a right list stays right, the symbol stands as it was set, every other symbol as before, and no byte changes
-- but the one.
use Rattle.std.specs.Prelude.{ℕ, ◌≡◌, true, List, ◌≢◌, eqb, length, get_or}
use Rattle.octets.specs.Choice.{pick}
use Rattle.wire.specs.Letters.{halted}
use Rattle.stocks.specs.Standing.{Trading, Halted, is_listed}
use Rattle.stocks.specs.Stocks.{list_good, place_of, state_place, standing_in, with_state}

-- of a right list, and a state that is one of the two
pub record SetKeeps (l symbol : List ℕ) (state : ℕ) : Type 0 where
  pub good : list_good (with_state l symbol state) ≡ true
  pub as-set : is_listed (standing_in l symbol) ≡ true → standing_in (with_state l symbol state) symbol ≡ pick (eqb state halted) Halted Trading
  pub others : (other : List ℕ) → other ≢ symbol → standing_in (with_state l symbol state) other ≡ standing_in l other
  pub long : length (with_state l symbol state) ≡ length l
  pub one_byte : (k : ℕ) → k ≢ state_place (place_of l symbol) → get_or (with_state l symbol state) k 0 ≡ get_or l k 0
