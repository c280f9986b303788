-- What setting a state keeps: no symbol changes and no state but the one. Assumes nothing.
use Rattle.octets.proofs.Proving.{Bool, List, [], ◌&&◌, ◌*◌, ◌+◌, ◌-◌, ◌/◌, ◌<◌, ◌||◌, ◌∙◌, ◌∷◌, ◌≡◌, ◌≢◌, ◌≤◌, ap, ap₂, arith, dec_lt, eqb, eqb-false, eqb-true, false, false≢true, get_or, leb, length, ltb, ltb-true, not, refl, subst, sym, true, ℕ, ℕ_discrete}
use Rattle.octets.specs.Choice.{pick, all_below, among, first_below, ◌⇒◌⨾◌}
use Rattle.octets.specs.Bytes.{part, put, same}
use Rattle.octets.proofs.Laws.{length-put, part-put-same, part-put-before, part-put-after, byte-part}
use Rattle.octets.proofs.Below.{both, all-each, same_true}
use Rattle.octets.proofs.First.{first-is, first-same}
use Rattle.wire.specs.Letters.{stock_states, halted}
use Rattle.stocks.specs.Limits.{symbol_size, place_size, most_places}
use Rattle.stocks.specs.Standing.{Trading, Halted, Unlisted, is_listed}
use Rattle.stocks.specs.Stocks.{places_in, symbol_at, state_at, state_place, size_good, ◌before◌, place_good, list_good, has_symbol, place_of, standing_in, with_state}
use Rattle.stocks.specs.Kept.{SetKeeps}
use Rattle.stocks.proofs.Good.{good-size, good-place}
use Rattle.stocks.proofs.Told.{is-trading, is-halted, set_there, set-nowhere}

-- ---- one state byte replaced, at place i

module _ (l : List ℕ) (i s : ℕ) (room : state_place i + 1 ≤ length l) where
  abbrev after : List ℕ
  after = put l (state_place i) (s ∷ [])

  same_length : length after ≡ length l
  same_length = length-put l (state_place i) (s ∷ []) room

  same-places : places_in after ≡ places_in l
  unfolding places_in
  same-places = ap (λ (n : ℕ). n / place_size) same_length

  same-symbol : (j : ℕ) → symbol_at after j ≡ symbol_at l j
  unfolding symbol_at
  same-symbol j =
      elim (dec_lt i j) [
        | yes h ↦ part-put-after l (state_place i) (s ∷ []) room (place_size * j) symbol_size (omega arith)
        | no h ↦ part-put-before l (state_place i) (s ∷ []) room (place_size * j) symbol_size (omega arith)
      ]

  other_byte : (k : ℕ) → k ≢ state_place i → get_or after k 0 ≡ get_or l k 0
  other_byte k d = sym (byte-part after k) ∙ ap (λ (b : List ℕ). get_or b 0 0) there ∙ byte-part l k
    where
      there : part after k 1 ≡ part l k 1
      there =
          elim (dec_lt k (state_place i)) [
            | yes h ↦ part-put-before l (state_place i) (s ∷ []) room k 1 (omega arith)
            | no h ↦ part-put-after l (state_place i) (s ∷ []) room k 1 (omega (arith, d))
          ]

  new-state : state_at after i ≡ s
  unfolding state_at
  new-state = sym (byte-part after (state_place i)) ∙ ap (λ (b : List ℕ). get_or b 0 0) (part-put-same l (state_place i) (s ∷ []) room)

  other-state : (j : ℕ) → j ≢ i → state_at after j ≡ state_at l j
  unfolding state_at
  other-state j d = other_byte (state_place j) (λ e. d (omega (arith, e)))

  same_place : (symbol : List ℕ) → place_of after symbol ≡ place_of l symbol
  unfolding place_of has_symbol
  same_place symbol =
      ap (λ (n : ℕ). first_below n (has_symbol after symbol)) same-places
      ∙ first-same (has_symbol after symbol) (has_symbol l symbol) (places_in l) (λ j. ap (λ (x : List ℕ). same x symbol) (same-symbol j))

  -- a place is judged by its symbol, by the one before it, and by its state
  place_after : (j : ℕ) → among stock_states (state_at after j) ≡ true → place_good l j ≡ true → place_good after j ≡ true
  unfolding place_good
  place_after j t g =
      ap₂ ◌&&◌
      (ap₂ (λ (x y : List ℕ). eqb j 0 || (x before y)) (same-symbol (j - 1)) (same-symbol j)
      ∙ (both (eqb j 0 || (symbol_at l (j - 1) before symbol_at l j)) (among stock_states (state_at l j)) g).0)
      t

  state-after : (j : ℕ) → among stock_states s ≡ true → place_good l j ≡ true → among stock_states (state_at after j) ≡ true
  unfolding place_good
  state-after j t g =
      elim (ℕ_discrete j i) [
        | yes e ↦ ap (λ (k : ℕ). among stock_states (state_at after k)) e ∙ ap (among stock_states) new-state ∙ t
        | no e ↦ ap (among stock_states) (other-state j e) ∙ (both (eqb j 0 || (symbol_at l (j - 1) before symbol_at l j)) (among stock_states (state_at l j)) g).1
      ]

  stays-good : among stock_states s ≡ true → list_good l ≡ true → list_good after ≡ true
  unfolding list_good size_good
  stays-good t g =
      ap₂ ◌&&◌
      (ap₂ (λ (n m : ℕ). leb n most_places && eqb m (place_size * n)) same-places same_length ∙ (both (size_good l) _ g).0)
      (ap (λ (n : ℕ). all_below n (place_good after)) same-places
      ∙ all-each (place_good after) (places_in l)
      (λ j h. let was = good-place l g j h in place_after j (state-after j t was) was))

  -- a symbol of another place
  as_before : (other : List ℕ) → place_of l other ≢ i → standing_in after other ≡ standing_in l other
  unfolding standing_in
  as_before other d =
      let e = same_place other in
      ap₂ (λ (a b : Bool). not a ⇒ Unlisted ⨾ b ⇒ Halted ⨾ Trading)
      (ap₂ ltb e same-places)
      (ap (λ (b : ℕ). eqb b halted) (ap (state_at after) e ∙ other-state (place_of l other) d))

  -- the symbol of this one
  as-told : (symbol : List ℕ) → place_of l symbol ≡ i → i < places_in l → standing_in after symbol ≡ pick (eqb s halted) Halted Trading
  as-told symbol at h = by (eqb s halted) refl
    where
      here : i ≡ place_of after symbol
      here = sym (same_place symbol ∙ at)

      there : i < places_in after
      there = subst (λ (n : ℕ). i < n) (sym same-places) h

      by : (b : Bool) → eqb s halted ≡ b → standing_in after symbol ≡ pick b Halted Trading
      by true e = sym (is-halted after symbol i here there (new-state ∙ eqb-true s halted e))
      by false e = sym (is-trading after symbol i here there (λ q. eqb-false s halted e (sym new-state ∙ q)))

-- ---- of a right list

-- the symbol's place has it
place-has : (l symbol : List ℕ) → place_of l symbol < places_in l → symbol_at l (place_of l symbol) ≡ symbol
unfolding place_of has_symbol
place-has l symbol h = same_true _ _ (first-is (has_symbol l symbol) (places_in l) h).holds

-- a symbol that is listed has a place
pub listed-there : (l symbol : List ℕ) → is_listed (standing_in l symbol) ≡ true → place_of l symbol < places_in l
unfolding standing_in
listed-there l symbol h = by (ltb (place_of l symbol) (places_in l)) refl h
  where
    by : (b : Bool) → ltb (place_of l symbol) (places_in l) ≡ b
        → is_listed (not b ⇒ Unlisted ⨾ eqb (state_at l (place_of l symbol)) halted ⇒ Halted ⨾ Trading) ≡ true → place_of l symbol < places_in l
    by true e listed = ltb-true _ _ e
    by false e listed = absurd (false≢true listed)

module _ (l symbol : List ℕ) (state : ℕ) (right : list_good l ≡ true) (known : among stock_states state ≡ true) where
  abbrev at : ℕ
  at = place_of l symbol

  -- what a list is that SetKeeps speaks of
  record Is (x : List ℕ) : Type 0 where
    good : list_good x ≡ true
    as-set : is_listed (standing_in l symbol) ≡ true → standing_in x symbol ≡ pick (eqb state halted) Halted Trading
    others : (other : List ℕ) → other ≢ symbol → standing_in x other ≡ standing_in l other
    long : length x ≡ length l
    one_byte : (k : ℕ) → k ≢ state_place at → get_or x k 0 ≡ get_or l k 0

  there : at < places_in l → Is (put l (state_place at) (state ∷ []))
  there h =
      let room : state_place at + 1 ≤ length l = omega (arith, good-size l right) in
      record {
        good = stays-good l at state room known right;
        as-set = λ _. as-told l at state room symbol refl h;
        others = λ other d. as_before l at state room other (apart other d);
        long = same_length l at state room;
        one_byte = λ k d. other_byte l at state room k d;
      }
    where
      apart : (other : List ℕ) → other ≢ symbol → place_of l other ≢ at
      apart other d e =
          d (sym (place-has l other (subst (λ (k : ℕ). k < places_in l) (sym e) h)) ∙ ap (symbol_at l) e ∙ place-has l symbol h)

  nowhere : places_in l ≤ at → Is l
  nowhere h =
      record {
        good = right;
        as-set = λ listed. absurd (omega (arith, h, listed-there l symbol listed));
        others = λ other d. refl;
        long = refl;
        one_byte = λ k d. refl;
      }

  set_is : Is (with_state l symbol state)
  set_is = elim (dec_lt at (places_in l)) [
    | yes h ↦ subst Is (set_there l symbol at refl state h) (there h)
    | no h ↦ subst Is (set-nowhere l symbol at refl state (omega arith)) (nowhere (omega arith))
  ]

  pub set_keeps : SetKeeps l symbol state
  set_keeps =
      let x = set_is in
      record { good = x.good; as-set = x.as-set; others = x.others; long = x.long; one_byte = x.one_byte }
