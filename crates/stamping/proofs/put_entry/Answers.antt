-- Three puts, one behind the other. Assumes nothing.
use Rattle.octets.proofs.Proving.{rules}
use Rattle.stamping.proofs.Puts.{front}
use Rattle.stamping.proofs.put_entry.Goals as goal

pub returns : goal.returns
returns c =
    let a = c.args in
    front a.entry.now a.kind a.stamp a.body.now (search rules) c.requires c.put_byte.ensures
    c.put_be64.ensures c.put_bytes.ensures
