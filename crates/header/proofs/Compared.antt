-- What `==` finds of a firm and spaces: whether all its bytes are. Assumes nothing.
use Rattle.octets.proofs.Proving.{Bool, List, [], ◌&&◌, ◌∷◌, ◌≡◌, ap, arith, eqb, length, refl, replicate, suc, zero, ℕ}
use Rattle.std.specs.Cmp.Lexicographic.{pointwise}
use Rattle.octets.specs.Bytes.{all_are}

pub compared-all : (x : ℕ) (xs : List ℕ) (n : ℕ) → length xs ≡ n → pointwise eqb xs (replicate n x) ≡ all_are x xs
unfolding all_are
compared-all x [] zero e = refl
compared-all x [] (suc n) e = absurd (omega arith)
compared-all x (y ∷ ys) zero e = absurd (omega arith)
compared-all x (y ∷ ys) (suc n) e = ap (λ (b : Bool). eqb y x && b) (compared-all x ys n (omega arith))
