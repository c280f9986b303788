-- The firm behind the stamp, and the symbol behind the firm where there is one. Assumes nothing.
use Rattle.octets.proofs.Proving.{List, ◌++◌, ◌∙◌, ◌∷◌, ap, arith, length-take, sym, ℕ}
use Rattle.octets.specs.Bytes.{put, digits}
use Rattle.stamping.proofs.Puts.{firm-fits, symbol-fits, symbol-put}
use Rattle.stamping.proofs.Which.{purge-long, mass-long, firm-alone}
use Rattle.stamping.proofs.put_purge.Goals as goal

pub put_entry-requires : goal.put_entry-requires
put_entry-requires c =
    simp length-take (omega (arith, firm-fits c.args.message.now c.requires.0, c.requires.1))

pub put_bytes-requires : goal.put_bytes-requires
put_bytes-requires c =
    let a = c.args in
    symbol-fits a.entry.now a.message.now a.kind a.stamp c.requires.0 (sym c.first_byte.ensures ∙ c.if-first_byte-eq77.true) c.requires.1 c.put_entry.ensures

pub returns-then-first_byte-eq77 : goal.returns-then-first_byte-eq77
returns-then-first_byte-eq77 c =
    let a = c.args in
    symbol-put a.entry.now a.message.now a.kind a.stamp c.requires.0 (sym c.first_byte.ensures ∙ c.if-first_byte-eq77.true) c.requires.1 c.put_entry.ensures
    c.put_bytes.ensures

pub returns-else-first_byte-eq77 : goal.returns-else-first_byte-eq77
returns-else-first_byte-eq77 c =
    let a = c.args in
    c.put_entry.ensures
    ∙ ap (λ (l : List ℕ). put a.entry.now 0 (a.kind ∷ (digits 8 a.stamp ++ l))) (sym (firm-alone a.message.now (λ e. c.if-first_byte-eq77.false (c.first_byte.ensures ∙ e))))

pub slice_bounds-put_entry-end : goal.slice_bounds-put_entry-end
slice_bounds-put_entry-end c = omega (arith, purge-long c.args.message.now c.requires.0)

pub slice_bounds-put_bytes-end : goal.slice_bounds-put_bytes-end
slice_bounds-put_bytes-end c =
    omega (arith, mass-long c.args.message.now c.requires.0 (sym c.first_byte.ensures ∙ c.if-first_byte-eq77.true))
