-- Four runs, one behind the other, are all of the buffer. Assumes nothing.
use Rattle.octets.proofs.Proving.{List, ◌∙◌, ap, ℕ}
use Rattle.octets.specs.Bytes.{put}
use Rattle.convert.proofs.Carried.{carried-runs}
use Rattle.convert.proofs.carry.Goals as goal

pub returns : goal.returns
returns c =
    let old = c.args.old.now in
    let t = c.args.table.now in
    carried-runs old t c.requires.0 c.requires.1 _ _ _ _ (c.put_bytes.ensures ∙ ap (λ (l : List ℕ). put t 0 l) c.renewed-head.ensures)
    c.put_number.ensures c.put_bytes-2.ensures c.put_number-2.ensures
