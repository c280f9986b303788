-- All that stands behind the records; where the table has no whole header that is nothing. Assumes nothing.
use Rattle.octets.proofs.Proving.{◌*◌, ◌+◌, ◌-◌, ◌∙◌, ◌≡◌, ap, arith, dec_le, drop, drop_of_length-le, length, length-drop, min, sym, take_all, ℕ}
use Rattle.table.specs.Table.{records_in, record_place, bit_bytes}
use Rattle.table.proofs.places.bit_bytes.Goals as goal

pub overflow_mul-records_in : goal.overflow_mul-records_in
unfolding records_in
overflow_mul-records_in c = omega (arith, c.records_in.ensures)

pub overflow_add-records_in : goal.overflow_add-records_in
unfolding records_in
overflow_add-records_in c = omega (arith, c.records_in.ensures)

pub returns : goal.returns
unfolding bit_bytes record_place
returns c =
    let t = c.args.table.now in
    let m : ℕ = c.min-place.result in
    let at : ℕ = 64 + 80 * records_in t in
    let e : m ≡ min at (length t) = rw c.records_in.ensures at c.min-place.ensures in
    take_all (length t - m) (drop m t) (omega (arith, length-drop m t))
    ∙ elim (dec_le at (length t)) [
      | yes l ↦ let f : m ≡ at = omega (arith, e) in ap (λ (k : ℕ). drop k t) f
      | no g ↦ drop_of_length-le t {i = m} (omega (arith, e)) ∙ sym (drop_of_length-le t {i = at} (omega arith))
    ]
