-- Numbers are in the order of bytes: of two texts of one length, the numbers that they spell compare as the first bytes that differ. Assumes
-- nothing.
use Rattle.octets.proofs.Proving.{Bool, List, [], ◌&&◌, ◌*◌, ◌+◌, ◌<◌, ◌||◌, ◌∙◌, ◌∷◌, ◌≡◌, ap, ap₂, arith, dec_lt, eq-eqb, eqb, le-ltb, length, lt-ltb, ltb, ne_eqb, refl, suc, sym, ℕ}
use Rattle.octets.specs.Bytes.{number_from, number_of, same}
use Rattle.stocks.specs.Stocks.{◌before◌}
use Rattle.wire.specs.Legal.{Bytes}

-- what is lower stays lower, whatever bytes follow
lower : (v w : ℕ) (xs ys : List ℕ) → length xs ≡ length ys → Bytes xs → v < w → number_from v xs < number_from w ys
unfolding number_from
lower v w [] [] e a h = h
lower v w [] (y ∷ ys) e a h = absurd (omega arith)
lower v w (x ∷ xs) [] e a h = absurd (omega arith)
lower v w (x ∷ xs) (y ∷ ys) e a h =
    let b : x < 256 = a 0 in
    lower (v * 256 + x) (w * 256 + y) xs ys (omega arith) (λ k. a (suc k)) (omega arith)

-- both comparisons of two numbers are those of the two texts
pub record Agrees (p q : ℕ) (xs ys : List ℕ) : Type 0 where
  pub order : ltb p q ≡ (xs before ys)
  pub equal : eqb p q ≡ same xs ys

-- by what the first bytes are: lower, higher or equal
module _ (v x y : ℕ) (xs ys : List ℕ) (long : length xs ≡ length ys) (a : Bytes (x ∷ xs)) (b : Bytes (y ∷ ys)) where
  abbrev p : ℕ
  p = number_from (v * 256 + x) xs

  abbrev q : ℕ
  q = number_from (v * 256 + y) ys

  by-lower : x < y → Agrees p q (x ∷ xs) (y ∷ ys)
  unfolding ◌before◌ same
  by-lower h =
      let s : p < q = lower (v * 256 + x) (v * 256 + y) xs ys long (λ k. a (suc k)) (omega arith) in
      record {
        order = lt-ltb p q s ∙ sym (ap (λ (t : Bool). t || (eqb x y && (xs before ys))) (lt-ltb x y h));
        equal = ne_eqb p q (λ e. omega (arith, s, e)) ∙ sym (ap (λ (t : Bool). t && same xs ys) (ne_eqb x y (λ e. omega (arith, h, e))));
      }

  by-higher : y < x → Agrees p q (x ∷ xs) (y ∷ ys)
  unfolding ◌before◌ same
  by-higher h =
      let s : q < p = lower (v * 256 + y) (v * 256 + x) ys xs (sym long) (λ k. b (suc k)) (omega arith) in
      let apart = ne_eqb x y (λ e. omega (arith, h, e)) in
      record {
        order = le-ltb p q (omega (arith, s)) ∙ sym (ap₂ (λ (t u : Bool). t || (u && (xs before ys))) (le-ltb x y (omega (arith, h))) apart);
        equal = ne_eqb p q (λ e. omega (arith, s, e)) ∙ sym (ap (λ (t : Bool). t && same xs ys) apart);
      }

  by_equal : x ≡ y → Agrees (number_from (v * 256 + y) xs) q xs ys → Agrees p q (x ∷ xs) (y ∷ ys)
  unfolding ◌before◌ same
  by_equal e rest =
      let alike = eq-eqb x y e in
      record {
        order = ap (λ (z : ℕ). ltb (number_from (v * 256 + z) xs) q) e ∙ rest.order
            ∙ sym (ap₂ (λ (t u : Bool). t || (u && (xs before ys))) (le-ltb x y (omega (arith, e))) alike);
        equal = ap (λ (z : ℕ). eqb (number_from (v * 256 + z) xs) q) e ∙ rest.equal ∙ sym (ap (λ (t : Bool). t && same xs ys) alike);
      }

agrees : (v : ℕ) (xs ys : List ℕ) → length xs ≡ length ys → Bytes xs → Bytes ys → Agrees (number_from v xs) (number_from v ys) xs ys
unfolding number_from ◌before◌ same
agrees v [] [] e a b = record { order = le-ltb v v (omega arith); equal = eq-eqb v v refl }
agrees v [] (y ∷ ys) e a b = absurd (omega arith)
agrees v (x ∷ xs) [] e a b = absurd (omega arith)
agrees v (x ∷ xs) (y ∷ ys) e a b =
    let l : length xs ≡ length ys = omega arith in
    let rest = agrees (v * 256 + y) xs ys l (λ k. a (suc k)) (λ k. b (suc k)) in
    elim (dec_lt x y) [
      | yes h ↦ by-lower v x y xs ys l a b h
      | no h ↦ elim (dec_lt y x) [
        | yes g ↦ by-higher v x y xs ys l a b g
        | no g ↦ by_equal v x y xs ys l a b (omega (arith, h, g)) rest
      ]
    ]

pub numbers-agree : (xs ys : List ℕ) → length xs ≡ length ys → Bytes xs → Bytes ys → Agrees (number_of xs) (number_of ys) xs ys
unfolding number_of
numbers-agree xs ys e a b = agrees 0 xs ys e a b
