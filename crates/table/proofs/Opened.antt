-- Everything that specs/ defines, open at once, for proofs by computation. Assumes nothing.
use Rattle.table.specs.Table.{records_in, table_size, size_good, record_place, record_bytes, head_bytes, header, used_in, order_at, bit_bytes, is_marked, open_sum, bits_good, sum_below, sum_good, sound, has_token, place_of, order_from, order_named, first_such, first_marked, with_mark, with_open_sum, open_before, counted, store_record, store_order, store_header}
use Rattle.table.specs.Backwards.{same_backwards}
use Rattle.table.specs.Fresh.{fresh_answer, fresh_table}
use Rattle.table.specs.Walk.{found_in}
use Rattle.table.specs.Status.{form_good, status, walked}

unfoldable pub opened : Unit {0}
unfolding records_in table_size size_good record_place record_bytes head_bytes header used_in order_at bit_bytes is_marked open_sum bits_good sum_below sum_good sound has_token place_of order_from order_named first_such first_marked with_mark with_open_sum open_before counted store_record store_order store_header same_backwards fresh_answer fresh_table found_in form_good status walked
opened = tt
