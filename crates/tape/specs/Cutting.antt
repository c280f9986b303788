-- Cutting a tape into entries (Messages and entries: a tape is a row of entries; the replay program tells a cut entry from the end).
use Rattle.std.specs.Prelude.{ℕ, ◌+◌, ◌-◌, List, length, get_or, leb, ltb, eqb}
use Rattle.octets.specs.Choice.{first_of◌, ◌⇒◌⨾◌}
use Rattle.tape.specs.Kinds.{entry_length}
pub use Rattle.tape.specs.declared.cutting.Cut.{Cut}
pub use Rattle.tape.specs.declared.cutting.Cut.TheVariants.{Whole, Short, Unknown, End}

unfoldable pub cut_at : List ℕ → ℕ → Cut
cut_at tape at =
    let size = entry_length (get_or tape at 0) in
    first_of
    leb (length tape) at ⇒ End
    ⨾ eqb size 0 ⇒ Unknown
    ⨾ ltb (length tape - at) size ⇒ Short
    ⨾ Whole (at + size)
