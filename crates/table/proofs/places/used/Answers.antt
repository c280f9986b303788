-- One number of the header, read as the header reads it; a table that has no whole header has no record. Assumes nothing.
use Rattle.octets.proofs.Proving.{List, ◌-◌, ◌∙◌, ◌≡◌, ap, arith, drop, le-ltb, length, length-take-le, rules, sym, take, take-append-drop, ℕ}
use Rattle.octets.specs.Bytes.{part}
use Rattle.octets.proofs.Laws.{part-front}
use Rattle.header.specs.Header.{header_of}
use Rattle.table.specs.Table.{header, head_bytes, records_in, used_in}
use Rattle.table.proofs.places.used.Goals as goal

pub returns-then-table-lt-HEADER_SIZE : goal.returns-then-table-lt-HEADER_SIZE
unfolding used_in records_in
returns-then-table-lt-HEADER_SIZE c =
    let e : length c.args.table.now - 64 ≡ 0 = omega arith in
    rw e (search rules)

pub returns : goal.returns
unfolding used_in header head_bytes header_of
returns c =
    let t = c.args.table.now in
    let long = length-take-le 60 t (omega arith) in
    let front : part t 4 4 ≡ part (take 60 t) 4 4 =
    ap (λ (l : List ℕ). part l 4 4) (sym (take-append-drop 60 t)) ∙ part-front (take 60 t) (drop 60 t) 4 4 (omega (arith, long)) in
    rw (le-ltb _ 64 c.if-table-lt-HEADER_SIZE.false, c.min.ensures, c.be32.ensures, c.records_in.ensures, front)
