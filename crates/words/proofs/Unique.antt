-- Every promise settles its result, but for that of what was typed, of which no contract can speak. Assumes nothing.
use Rattle.octets.proofs.Settles.{Settled, settled, one-result}
use Rattle.words.proofs as words

pub usual-unique : Settled words.usual.Reads.Post
usual-unique κs a = settled

pub length-unique : Settled words.table_length.Reads.Post
length-unique κs a z z' e e' p q = one-result p.0 q.0

pub hear-unique : Settled words.hear.Reads.Post
hear-unique κs a = settled
