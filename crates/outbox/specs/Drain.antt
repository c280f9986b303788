-- Emptying an outbox: round after round, the run is read and given up.
use Rattle.std.specs.Prelude.{ℕ, zero, suc, List, [], ◌++◌, length}
use Rattle.outbox.specs.Outbox.{Marks, read_run, release_marks}

-- the marks after a round: all that was read is released
unfoldable pub after_round : List ℕ → Marks → Marks
after_round ring m = release_marks (length ring) m (length (read_run ring m))

-- the bytes that so many rounds bring out, in order
unfoldable pub drained : ℕ → List ℕ → Marks → List ℕ
drained zero ring m = []
drained (suc rounds) ring m = read_run ring m ++ drained rounds ring (after_round ring m)
