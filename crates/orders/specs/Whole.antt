-- What the types of the fields say of a value: numbers fit their widths, arrays are as long as they are declared. Code gives and takes no others.
use Rattle.std.specs.Prelude.{◌≡◌, ℕ, ◌^◌, ◌<◌, length}
use Rattle.wire.specs.Limits.{token_size}
use Rattle.orders.specs.Counts.{Counts}
use Rattle.orders.specs.Order.{Kept, Terms, Details, Order}

abbrev pub U8 : ℕ → Type 0
U8 n = n < 256 ^ 1

abbrev pub U32 : ℕ → Type 0
U32 n = n < 256 ^ 4

abbrev pub U64 : ℕ → Type 0
U64 n = n < 256 ^ 8

pub record WholeCounts (s : Counts) : Type 0 where
  pub liable : U32 s.liable.0
  pub executed : U32 s.executed.0
  pub matched : U32 s.matched.0

pub record WholeKept (k : Kept) : Type 0 where
  pub stock : length k.stock ≡ 8
  pub firm : length k.firm ≡ 4
  pub capacity : U8 k.capacity
  pub cross : U8 k.cross

pub record WholeTerms (t : Terms) : Type 0 where
  pub price : U32 t.price
  pub time : U32 t.time
  pub display : U8 t.display
  pub sweep : U8 t.sweep
  pub minimum : U32 t.minimum.0

pub record WholeDetails (d : Details) : Type 0 where
  pub kept : WholeKept d.kept
  pub terms : WholeTerms d.terms
  pub reference : U64 d.reference
  pub previous : length d.previous ≡ token_size
  pub spare : U8 d.spare

pub record WholeOrder (o : Order) : Type 0 where
  pub state : U8 o.state
  pub token : length o.token ≡ token_size
  pub side : U8 o.side
  pub shares : WholeCounts o.shares
  pub flags : U8 o.flags
  pub details : WholeDetails o.details
