-- The token of the record's bytes, compared from its end: the same test from its front. Assumes nothing.
use Rattle.octets.proofs.Proving.{List, ◌∙◌, ap, arith, ℕ}
use Rattle.octets.specs.Bytes.{same}
use Rattle.octets.proofs.Laws.{length_part}
use Rattle.wire.specs.Limits.{token_size}
use Rattle.orders.specs.Order.{order_of}
use Rattle.table.specs.Table.{order_at, has_token}
use Rattle.table.proofs.Backwards.{either_end}
use Rattle.table.proofs.find.has_token.Goals as goal
use Rattle.table.proofs.find.has_token.Goals.{Start}

pub returns : goal.returns
unfolding has_token order_at order_of
returns c =
    let start = (goal.at.returns c).Start in
    let own = c.record_bytes-r in
    c.same_backwards.ensures
    ∙ either_end _ _ token_size (length_part own.result.now 1 token_size (omega arith)) (omega (arith, start))
    ∙ ap (λ (r : List ℕ). same (order_of r).token start.args.token) own.ensures
