-- What is known of a right list: how long it is, that each place is right, and that its symbols ascend as numbers do. Assumes nothing.
use Rattle.octets.proofs.Proving.{Bool, List, ◌&&◌, ◌*◌, ◌+◌, ◌-◌, ◌<◌, ◌||◌, ◌∙◌, ◌≡◌, ◌≤◌, and-false, ap, ap₂, arith, eqb, eqb-true, false, false≢true, leb, leb-true, length, ltb, ltb-true, refl, suc, sym, true, zero, ℕ}
use lib.Dec.{eqb-suc-zero}
use Rattle.octets.specs.Choice.{all_below, among}
use Rattle.octets.proofs.Laws.{length_part, part_bytes}
use Rattle.octets.proofs.Below.{both, all-at, all-next, all_true, all-false}
use Rattle.wire.specs.Letters.{stock_states}
use Rattle.stocks.specs.Limits.{symbol_size, place_size, most_places}
use Rattle.stocks.specs.Stocks.{places_in, symbol_at, state_at, size_good, place_good, list_good, ◌before◌}
use Rattle.wire.specs.Legal.{Bytes}
use Rattle.stocks.specs.Ranks.{rank_at}
use Rattle.stocks.proofs.Order.{Agrees, numbers-agree}

pub good-size : (l : List ℕ) → list_good l ≡ true → length l ≡ place_size * places_in l
unfolding list_good size_good
good-size l e = eqb-true _ _ (both (leb (places_in l) most_places) _ (both (size_good l) _ e).0).1

pub few-places : (l : List ℕ) → list_good l ≡ true → places_in l ≤ most_places
unfolding list_good size_good
few-places l e = leb-true _ _ (both (leb (places_in l) most_places) _ (both (size_good l) _ e).0).0

pub good-place : (l : List ℕ) → list_good l ≡ true → (i : ℕ) → i < places_in l → place_good l i ≡ true
unfolding list_good
good-place l e i h = all-at (place_good l) (places_in l) i (both (size_good l) _ e).1 h

-- of two places that lie in a list, the numbers compare as the symbols do
pub ranks-agree : (l : List ℕ) → Bytes l → (i j : ℕ) → place_size * i + symbol_size ≤ length l → place_size * j + symbol_size ≤ length l
    → Agrees (rank_at l i) (rank_at l j) (symbol_at l i) (symbol_at l j)
unfolding rank_at symbol_at
ranks-agree l a i j h g =
    numbers-agree (symbol_at l i) (symbol_at l j) (length_part l (place_size * i) symbol_size h ∙ sym (length_part l (place_size * j) symbol_size g))
    (part_bytes l a (place_size * i) symbol_size) (part_bytes l a (place_size * j) symbol_size)

-- what is judged of the first place, and of one behind another
pub first-judged : (l : List ℕ) → among stock_states (state_at l 0) ≡ place_good l 0
unfolding place_good
first-judged l = refl

place-judged : (l : List ℕ) → Bytes l → (i : ℕ) → 0 < i → place_size * i + symbol_size ≤ length l
    → (ltb (rank_at l (i - 1)) (rank_at l i) && among stock_states (state_at l i)) ≡ place_good l i
unfolding place_good
place-judged l a zero some fits = absurd (omega arith)
place-judged l a (suc i) some fits =
    ap (λ (b : Bool). b && among stock_states (state_at l (suc i)))
    ((ranks-agree l a (suc i - 1) (suc i) (omega arith) fits).order ∙ sym (ap (λ (b : Bool). b || (symbol_at l (suc i - 1) before symbol_at l (suc i))) (eqb-suc-zero i)))

-- ---- what judging knows of n places

module _ (l : List ℕ) (bytes : Bytes l) (n : ℕ) (fits : place_size * n ≤ length l) where
  abbrev good : ℕ → Bool
  good = place_good l

  -- of a place behind another, whose number is `last`
  judged : (i last rank : ℕ) → 0 < i → i < n → last ≡ rank_at l (i - 1) → rank ≡ rank_at l i → (ltb last rank && among stock_states (state_at l i)) ≡ good i
  judged i last rank some below was is =
      ap₂ (λ (p q : ℕ). ltb p q && among stock_states (state_at l i)) was is ∙ place-judged l bytes i some (omega arith)

  -- a state that is wrong settles all
  pub state-fails : (i : ℕ) → i < n → among stock_states (state_at l i) ≡ false → all_below n good ≡ false
  unfolding place_good
  state-fails i below off =
      all-false good n i below
      (ap (λ (b : Bool). (eqb i 0 || (symbol_at l (i - 1) before symbol_at l i)) && b) off ∙ and-false (eqb i 0 || (symbol_at l (i - 1) before symbol_at l i)))

  module _ (i last first second : ℕ) (some : 0 < i) (two : i + 1 < n) (was : last ≡ rank_at l (i - 1)) (one-is : first ≡ rank_at l i)
      (two_is : second ≡ rank_at l (i + 1))
    where
      one : (ltb last first && among stock_states (state_at l i)) ≡ good i
      one = judged i last first some (omega arith) was one-is

      other : (ltb first second && among stock_states (state_at l (i + 1))) ≡ good (i + 1)
      other =
          let e : i ≡ i + 1 - 1 = omega arith in
          judged (i + 1) first second (omega arith) two (one-is ∙ ap (rank_at l) e) two_is

      -- so does an order that is wrong
      pub orders-fail : (ltb last first && ltb first second) ≡ false → all_below n good ≡ false
      orders-fail off = by (all_below n good) refl
        where
          by : (b : Bool) → all_below n good ≡ b → b ≡ false
          by false e = refl
          by true e =
              let a = (both (ltb last first) _ (one ∙ all-at good n i e (omega arith))).0 in
              let c = (both (ltb first second) _ (other ∙ all-at good n (i + 1) e two)).0 in
              absurd (false≢true (sym off ∙ rw (a, c)))

      -- both places are right
      pub pair-passes : (ltb last first && ltb first second) ≡ true → among stock_states (state_at l i) ≡ true → among stock_states (state_at l (i + 1)) ≡ true
          → all_below i good ≡ true → all_below (i + 2) good ≡ true
      pair-passes orders a c all =
          let o = both (ltb last first) (ltb first second) orders in
          let e : i + 2 ≡ i + 1 + 1 = omega arith in
          ap (λ (k : ℕ). all_below k good) e
          ∙ all_true good (i + 1) (all_true good i all (sym one ∙ ap₂ ◌&&◌ o.0 a)) (sym other ∙ ap₂ ◌&&◌ o.1 c)

  -- one place is left
  pub last-judged : (i last rank : ℕ) → 0 < i → i + 1 ≡ n → last ≡ rank_at l (i - 1) → rank ≡ rank_at l i → all_below i good ≡ true
      → (ltb last rank && among stock_states (state_at l i)) ≡ all_below n good
  last-judged i last rank some end was is all =
      judged i last rank some (omega arith) was is
      ∙ ap (λ (b : Bool). b && good i) (sym all)
      ∙ all-next good i refl refl
      ∙ ap (λ (k : ℕ). all_below k good) end

-- each number is lower than the next
abbrev pub Ascending : (ℕ → ℕ) → ℕ → Type 0
Ascending f n = (i : ℕ) → suc i < n → f i < f (suc i)

pub good-ascending : (l : List ℕ) → Bytes l → list_good l ≡ true → Ascending (rank_at l) (places_in l)
unfolding place_good
good-ascending l a good i h =
    let size = good-size l good in
    let p : suc i - 1 ≡ i = omega arith in
    let ordered = (both _ (among stock_states (state_at l (suc i))) (good-place l good (suc i) h)).0 in
    ltb-true (rank_at l i) (rank_at l (suc i))
    ((ranks-agree l a i (suc i) (omega (arith, size)) (omega (arith, size))).order
    ∙ ap₂ (λ (t : Bool) (k : ℕ). t || (symbol_at l k before symbol_at l (suc i))) (sym (eqb-suc-zero i)) (sym p)
    ∙ ordered)
