-- The three counts of an order: liable, executed and self-matched, and what is open of it (Table and outbox, Record).
use Rattle.wire.specs.Shares.{total, ◌together◌, ◌less◌, ◌cut_by◌, ◌grown_by◌}
use Rattle.wire.specs.declared.shares.Total.{Total}
use Rattle.wire.specs.declared.shares.Removed.{Removed}
pub use Rattle.orders.specs.declared.counts.Counts.{Counts}

-- executed + self-matched
unfoldable pub gone : Counts → Total
gone s = s.executed together s.matched

-- Open = liable − executed − self-matched
unfoldable pub open_shares : Counts → Removed
open_shares s = s.liable less gone s

unfoldable pub with_liable : Counts → Total → Counts
with_liable s t = record { liable = t; executed = s.executed; matched = s.matched }

unfoldable pub cut : Counts → Removed → Counts
cut s d = with_liable s (s.liable cut_by d)

unfoldable pub executing : Counts → Removed → Counts
executing s d = record { liable = s.liable; executed = s.executed grown_by d; matched = s.matched }

unfoldable pub self_matching : Counts → Removed → Counts
self_matching s d = record { liable = s.liable; executed = s.executed; matched = s.matched grown_by d }

unfoldable pub new_counts : Total → Counts
new_counts t = record { liable = t; executed = total 0; matched = total 0 }
