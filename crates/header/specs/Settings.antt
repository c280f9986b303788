-- The settings, and the header that a fresh table has from them (Table and outbox: the fresh call takes threshold and 1 to 8 firms).
use Rattle.std.specs.Prelude.{ℕ, ◌*◌, Bool, List, [], ◌∷◌, ◌++◌, map, take, leb}
use Rattle.octets.specs.Choice.{every}
use Rattle.octets.specs.Bytes.{zeros, joined}
use Rattle.header.specs.Limits.{day_before, fewest_firms, most_firms, firm_size, first_reference, lowest_threshold, highest_threshold}
use Rattle.header.specs.Header.{Header}
use Rattle.header.specs.Firms.{firms_shaped}
pub use Rattle.header.specs.declared.settings.Firm.{Firm}
pub use Rattle.header.specs.declared.settings.Settings.{Settings}

-- the codes of the first n firms, one behind the other
abbrev pub codes_of : List Firm → ℕ → List ℕ
codes_of firms n = joined (map (λ (f : Firm). f.code) (take n firms))

-- the firms up to the count, and zeros in the places past it
unfoldable pub listed_firms : List Firm → ℕ → List ℕ
listed_firms firms n = take (firm_size * most_firms) (codes_of firms n ++ zeros (firm_size * most_firms))

-- threshold 1 to 1,000,000, and 1 to 8 firms, each 1 to 4 capitals, then spaces
unfoldable pub settings_good : Settings → Bool
settings_good s =
    every
    (leb lowest_threshold s.threshold.0
    ∷ leb s.threshold.0 highest_threshold
    ∷ leb fewest_firms s.count
    ∷ leb s.count most_firms
    ∷ firms_shaped (listed_firms s.firms s.count) s.count
    ∷ [])

-- day 0, no firm blocked (Ask 5), used 0, stamp 0, reference 1, these settings
unfoldable pub fresh_header : Settings → Header
fresh_header s =
    record {
      day = day_before;
      count = s.count;
      blocked = 0;
      used = 0;
      last = 0;
      reference = first_reference;
      threshold = s.threshold;
      firms = listed_firms s.firms s.count;
    }
