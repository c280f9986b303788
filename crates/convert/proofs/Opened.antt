-- Everything that specs/ defines, open at once, for proofs by computation. Assumes nothing.
use Rattle.convert.specs.Old.{old_records, old_size_good, old_header, old_used, renewed, old_sound, old_place_of}
use Rattle.convert.specs.Convert.{convert_answer, carried, with_orders, converted}
use Rattle.convert.specs.Example.{head, records, old_table, new_table, comes_to, examples}

unfoldable pub opened : Unit {0}
unfolding old_records old_size_good old_header old_used renewed old_sound old_place_of convert_answer carried with_orders converted head records old_table new_table comes_to examples
opened = tt
