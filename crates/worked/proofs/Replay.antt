-- What the paper's program prints of its tape: each side computes. Assumes nothing.
use Prim.Native.Char.{code}
use mathlib.Core.Path.{◌≡◌, refl}
use mathlib.Core.List.{[], ◌∷◌}
use Rattle.worked.specs.Replay.{replayed}
use Rattle.worked.proofs.Below.{below}
use Rattle.worked.proofs.Opened.{opened}

-- 1 73 0 S, 2 4f 0 A, 3 58 0 C, 4 58 1 -; bytes 104
pub replay-prints : replayed 800 4096 ≡ (0 ∷ 0 ∷ 0 ∷ 1 ∷ [], code "S" ∷ code "A" ∷ code "C" ∷ code "-" ∷ [], 104)
unfolding below opened
replay-prints = refl
