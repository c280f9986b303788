-- What `keep` leaves at the front is held with what the read brought behind it. Assumes nothing.
use Rattle.feed.proofs.Holds.{read-in}
use Rattle.feed.proofs.refill.refill.Goals as goal

pub returns : goal.returns
returns g c =
    let n = c.keep-n in
    let r = c.read_some-more in
    read-in c.args.buffer.now n.new.buffer r.new.space _ c.args.held n.result r.result n.ensures.0 n.ensures.1 r.ensures.0
