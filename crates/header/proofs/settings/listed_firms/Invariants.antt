-- The loop's invariant: the row holds the codes of the firms passed, and zeros behind them.
use Rattle.octets.proofs.Proving.{◌*◌, ◌++◌, ◌-◌, ◌≡◌, length}
use Rattle.octets.specs.Bytes.{zeros}
use Rattle.header.specs.Settings.{codes_of}
use Rattle.header.proofs.settings.listed_firms.Given as goal

abbrev pub invariant-loop-k : goal.invariant-loop-k
invariant-loop-k l =
    (length l.row ≡ 32) × (l.row ≡ codes_of l.fn.firms l.k ++ zeros (32 - 4 * l.k)) × (length (codes_of l.fn.firms l.k) ≡ 4 * l.k)
