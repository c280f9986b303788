-- A rejected token is judged by its zeros, any other record by its counts. Assumes nothing.
use Rattle.octets.proofs.Proving.{◌∙◌, ◌≡◌, ap, ap₂, arith, drop, length-drop, sym, take_all}
use Rattle.std.specs.Bool.{then_some}
use Rattle.octets.specs.Bytes.{all_are}
use Rattle.wire.specs.Letters.{rejected_token}
use Rattle.orders.specs.Counts.{open_shares}
use Rattle.orders.specs.Order.{order_of}
use Rattle.orders.specs.Sound.{counted_sound}
use Rattle.orders.proofs.Judged.{state-rejected, state-counted}
use Rattle.orders.proofs.Standing.{verdict-rejected, verdict-counted}
use Rattle.orders.proofs.sound.state_verdict.Goals as goal

pub returns-then-state-eq82 : goal.returns-then-state-eq82
unfolding order_of
returns-then-state-eq82 c =
    let s = c.args.r.now in
    let e : (order_of s).state ≡ rejected_token = sym c.byte_at-state.ensures ∙ c.if-state-eq82.true in
    let zeros = c.are_zero.ensures ∙ ap (all_are 0) (take_all 65 (drop 15 s) (simp length-drop (omega arith))) in
    c.then_some.ensures ∙ verdict-rejected s c.are_zero.result e (zeros ∙ sym (state-rejected s (order_of s) e))

pub returns : goal.returns
unfolding order_of
returns c =
    let s = c.args.r.now in
    let n : (order_of s).state ≡ rejected_token → ⊥ = λ e. c.if-state-eq82.false (c.byte_at-state.ensures ∙ e) in
    let asked = c.counted_sound.ensures ∙ ap₂ counted_sound c.byte_at-state.ensures c.counts_of-s.ensures ∙ sym (state-counted s (order_of s) n) in
    c.then_some-2.ensures
    ∙ ap (then_some c.counted_sound.result) (c.open_shares.ensures ∙ ap open_shares c.counts_of-s.ensures)
    ∙ verdict-counted s c.counted_sound.result n asked
