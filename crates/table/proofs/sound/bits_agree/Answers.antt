-- The whole bytes, and the bits behind them. Assumes nothing.
use Rattle.octets.proofs.Proving.{◌*◌, ◌+◌, ◌-◌, ◌/◌, ◌∙◌, ◌≡◌, ap, ap₂, arith, sym, ◌&&◌, ℕ}
use Rattle.octets.specs.Choice.{all_below}
use Rattle.bitrow.proofs.Halves.{all_split}
use Rattle.table.proofs.Judging.{agrees}
use Rattle.table.proofs.sound.bits_agree.Goals as goal

pub returns : goal.returns
returns c =
    let a = c.args in
    let m : ℕ = 8 * (a.n / 8) in
    let whole : m + (a.n - m) ≡ a.n = omega arith in
    ap₂ ◌&&◌ c.bytes_agree.ensures c.rest_agrees.ensures
    ∙ sym (all_split (agrees a.table.now) m (a.n - m))
    ∙ ap (λ (k : ℕ). all_below k (agrees a.table.now)) whole
