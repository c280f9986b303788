-- The bits are lent whole, and put back with one of them as said. Assumes nothing.
use Rattle.octets.proofs.Proving.{List, ◌*◌, ◌++◌, ◌+◌, ◌-◌, ◌∙◌, ◌≡◌, ◌≤◌, ap, arith, drop, length, subst, sym, take, ℕ}
use Rattle.octets.specs.Bytes.{part, put}
use Rattle.octets.proofs.Laws.{put-lent, length-put}
use Rattle.bitrow.specs.Row.{with_bit_at}
use Rattle.bitrow.proofs.Rows.{length-with}
use Rattle.table.specs.Table.{records_in, record_place, with_mark, bit_bytes}
use Rattle.table.proofs.Stored.{record-fits, bits-there, bits-long, bits-part}
use Rattle.table.proofs.store.mark.Goals as goal
use Rattle.table.proofs.store.mark.Goals.{After-records_in}

-- the bits stand in the table
behind : (c : After-records_in) → 64 + 80 * c.records_in.result ≤ length c.args.table.now
behind c =
    let start = c in
    let t = start.args.table.now in
    omega (arith, bits-there t (omega (arith, record-fits t start.args.i start.requires)), c.records_in.ensures)

pub overflow_mul-place : goal.overflow_mul-place
unfolding records_in
overflow_mul-place c = omega (arith, c.records_in.ensures)

pub overflow_add-place : goal.overflow_add-place
unfolding records_in
overflow_add-place c = omega (arith, c.records_in.ensures)

pub returns : goal.returns
unfolding with_mark record_place
returns c =
    let there = (goal.at.returns c).After-records_in in
    let start = there in
    let t = start.args.table.now in
    let at : ℕ = 64 + 80 * there.records_in.result in
    let m : ℕ = length t - at in
    let row = with_bit_at (bit_bytes t) start.args.i start.args.live in
    let lent : bit_bytes t ≡ part t at m = rw (← there.records_in.ensures) at (bits-part t (omega (arith, behind there))) in
    let set = c.set_bit.ensures ∙ ap (λ (b : List ℕ). with_bit_at b start.args.i start.args.live) (sym lent) in
    let long : length row ≡ m = length-with (bit_bytes t) start.args.i start.args.live ∙ rw (← there.records_in.ensures) at (bits-long t) in
    let whole : at + m - at ≡ m = omega arith in
    let is-put = subst (λ (k : ℕ). take at t ++ (c.set_bit.new.bits ++ drop k (drop at t)) ≡ put t at row) whole (put-lent t at m row _ set long) in
    let same = length-put t at row (omega (arith, long, behind there)) in
    (rw (← there.records_in.ensures) is-put, subst (λ (u : List ℕ). 64 ≤ length u) (sym is-put) (omega (arith, same, behind there)))

pub slice_bounds-set_bit-count : goal.slice_bounds-set_bit-count
slice_bounds-set_bit-count c = behind (goal.at.slice_bounds-set_bit-count c).After-records_in

pub slice_bounds-set_bit-start : goal.slice_bounds-set_bit-start
slice_bounds-set_bit-start c = behind (goal.at.slice_bounds-set_bit-start c).After-records_in
