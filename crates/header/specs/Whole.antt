-- What the types of the fields say of a header and of settings: numbers fit their widths, arrays are as long as they are declared. Code gives
-- and takes no others.
use Rattle.std.specs.Prelude.{◌≡◌, List, [], ◌∷◌, ◌^◌, ◌<◌, length}
use Rattle.header.specs.Limits.{firm_size, most_firms}
use Rattle.header.specs.Header.{Header}
use Rattle.header.specs.Settings.{Firm, Settings}

pub record WholeHeader (h : Header) : Type 0 where
  pub day : h.day < 256 ^ 1
  pub count : h.count < 256 ^ 1
  pub blocked : h.blocked < 256 ^ 1
  pub used : h.used < 256 ^ 4
  pub last : h.last < 256 ^ 8
  pub reference : h.reference < 256 ^ 8
  pub threshold : h.threshold.0 < 256 ^ 4
  pub firms : length h.firms ≡ 32

abbrev pub WholeFirms : List Firm → Type 0
WholeFirms [] = Unit {0}
WholeFirms (f ∷ fs) = (length f.code ≡ firm_size) × WholeFirms fs

pub record WholeSettings (s : Settings) : Type 0 where
  pub threshold : s.threshold.0 < 256 ^ 4
  pub places : length s.firms ≡ most_firms
  pub codes : WholeFirms s.firms
