-- Why halving finds what looking at every place finds: where the numbers ascend, the last that is not above a number is the only one that can be
-- it. Assumes nothing.
use Rattle.octets.proofs.Proving.{Bool, List, ◌*◌, ◌+◌, ◌-◌, ◌/◌, ◌<◌, ◌^◌, ◌∙◌, ◌≡◌, ◌≤◌, ap, arith, dec_lt, eq-eqb, eqb, false, leb, leb-false, leb-true, length, ne_eqb, pow-suc, refl, subst, suc, sym, true, zero, ℕ, ℕ_discrete}
use Rattle.octets.specs.Choice.{pick}
use Rattle.octets.specs.Bytes.{number_of}
use Rattle.octets.proofs.Laws.{length_part, part_bytes}
use Rattle.octets.proofs.First.{first-only, none_only}
use Rattle.stocks.specs.Limits.{symbol_size, place_size}
use Rattle.stocks.specs.Stocks.{places_in, symbol_at, list_good, has_symbol, place_of}
use Rattle.wire.specs.Legal.{Bytes}
use Rattle.stocks.specs.Ranks.{rank_at, LastNotAbove}
use Rattle.stocks.proofs.Order.{numbers-agree}
use Rattle.stocks.proofs.Good.{Ascending, good-size, good-ascending}

-- each number is lower than every later one
pub ascends : (f : ℕ → ℕ) (n : ℕ) → Ascending f n → (i j : ℕ) → i < j → j < n → f i < f j
ascends f n a i zero h g = absurd (omega arith)
ascends f n a i (suc j) h g =
    elim (ℕ_discrete i j) [
      | yes q ↦ subst (λ (k : ℕ). f k < f (suc j)) (sym q) (a j g)
      | no q ↦ omega (arith, a j g, ascends f n a i j (omega arith) (omega arith))
    ]

-- ---- the loop

-- of the `size` places from `base` on one is the last that is not above the number: what is behind them is above it, and so many halvings are
-- enough
abbrev pub Among : List ℕ → ℕ → ℕ → ℕ → ℕ → ℕ → Type 0
Among l rank n base size left =
    (0 < size)
    × (base + size ≤ n)
    × (size ≤ 2 ^ left)
    × (0 < base → rank_at l base ≤ rank)
    × ((j : ℕ) → base + size ≤ j → j < n → rank < rank_at l j)

module _ (l : List ℕ) (rank n base size left : ℕ) (a : Ascending (rank_at l) n) (here : Among l rank n base size left) (more : 0 < left) where
  abbrev half : ℕ
  half = size / 2

  enough : size - half ≤ 2 ^ (left - 1)
  enough =
      let e : suc (left - 1) ≡ left = omega arith in
      let twice : 2 ^ left ≡ 2 ^ (left - 1) * 2 = ap (λ (k : ℕ). 2 ^ k) (sym e) ∙ pow-suc 2 (left - 1) in
      omega (arith, here.2, twice)

  upper-half : rank_at l (base + half) ≤ rank → Among l rank n (base + half) (size - half) (left - 1)
  upper-half not-above =
      (omega (arith, here.0), omega (arith, here.1), enough, (λ _. not-above), λ j b h. here.4 j (omega arith) h)

  lower-half : rank < rank_at l (base + half) → Among l rank n base (size - half) (left - 1)
  lower-half above = (omega (arith, here.0), omega (arith, here.1), enough, here.3, behind)
    where
      behind : (j : ℕ) → base + (size - half) ≤ j → j < n → rank < rank_at l j
      behind j b h =
          elim (ℕ_discrete j (base + half)) [
            | yes q ↦ subst (λ (k : ℕ). rank < rank_at l k) (sym q) above
            | no q ↦ omega (arith, above, ascends (rank_at l) n a (base + half) j (omega arith) h)
          ]

  -- as the comparison says
  pub halved : {middle : ℕ} → middle ≡ pick (leb (rank_at l (base + half)) rank) (base + half) base → Among l rank n middle (size - half) (left - 1)
  halved e = subst (λ (m : ℕ). Among l rank n m (size - half) (left - 1)) (sym e) (by (leb (rank_at l (base + half)) rank) refl)
    where
      by : (b : Bool) → leb (rank_at l (base + half)) rank ≡ b → Among l rank n (pick b (base + half) base) (size - half) (left - 1)
      by true q = upper-half (leb-true _ _ q)
      by false q = lower-half (leb-false _ _ q)

-- with no halving left one place is left
pub closed : (l : List ℕ) (rank n base size left : ℕ) → left ≡ 0 → Among l rank n base size left → LastNotAbove l rank n base
closed l rank n base size left none here =
    let one : size ≤ 1 = subst (λ (k : ℕ). size ≤ 2 ^ k) none here.2 in
    (omega (arith, here.0, here.1), here.3, λ j b h. here.4 j (omega arith) h)

-- ---- the key law

module _ (l symbol : List ℕ) (bytes : Bytes l) (symbol-bytes : Bytes symbol) (eight : length symbol ≡ symbol_size) (good : list_good l ≡ true)
    (r : ℕ) (e : LastNotAbove l (number_of symbol) (places_in l) r)
  where
    -- a place has the symbol where it has its number
    same_rank : (j : ℕ) → j < places_in l → eqb (rank_at l j) (number_of symbol) ≡ has_symbol l symbol j
    unfolding rank_at symbol_at has_symbol
    same_rank j h =
        let room : place_size * j + symbol_size ≤ length l = omega (arith, good-size l good) in
        (numbers-agree (symbol_at l j) symbol (length_part l (place_size * j) symbol_size room ∙ sym eight)
        (part_bytes l bytes (place_size * j) symbol_size) symbol-bytes).equal

    differs : (j : ℕ) → j < places_in l → (rank_at l j ≡ number_of symbol → ⊥) → has_symbol l symbol j ≡ false
    differs j h d = sym (same_rank j h) ∙ ne_eqb _ _ d

    abbrev rank : ℕ
    rank = number_of symbol

    abbrev rising : Ascending (rank_at l) (places_in l)
    rising = good-ascending l bytes good

    -- the place so found has it
    pub found : rank_at l r ≡ rank → r ≡ place_of l symbol
    unfolding place_of
    found q =
        sym (first-only (has_symbol l symbol) (places_in l) r
        (record {
          below = e.0;
          holds = sym (same_rank r e.0) ∙ eq-eqb _ _ q;
          none_before = λ j b. differs j (omega (arith, e.0)) (λ d. omega (arith, d, q, ascends (rank_at l) (places_in l) rising j r b e.0));
        }))

    -- it has not, and so no place has
    pub missed : (rank_at l r ≡ rank → ⊥) → places_in l ≡ place_of l symbol
    unfolding place_of
    missed no-r = sym (none_only (has_symbol l symbol) (places_in l) (λ j h. differs j h (other j h)))
      where
        other : (j : ℕ) → j < places_in l → rank_at l j ≡ rank → ⊥
        other j h d =
            elim (dec_lt j r) [
              | yes b ↦ omega (arith, d, e.1 (omega arith), ascends (rank_at l) (places_in l) rising j r b e.0)
              | no b ↦ elim (ℕ_discrete j r) [
                | yes q ↦ no-r (ap (rank_at l) (sym q) ∙ d)
                | no q ↦ omega (arith, d, e.2 j (omega arith) h)
              ]
            ]
