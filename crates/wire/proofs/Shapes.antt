-- Capitals, then spaces, judged from left to right: what one byte more does to the verdict. Assumes nothing.
use Rattle.octets.proofs.Proving.{Bool, List, [], ◌&&◌, ◌+◌, ◌-◌, ◌<◌, ◌||◌, ◌∷◌, ◌≡◌, ◌≤◌, add-one, and-true, arith, drop, drop-cons, drop_of_length-le, eqb, false, get_or, leb, leb-true, length, ne_eqb, not, refl, suc, take, take_all, true, ℕ}
use Rattle.std.specs.Char.{is_ascii_uppercase}
use Rattle.octets.specs.Choice.{pick}
use Rattle.octets.specs.Bytes.{all_are}
use Rattle.wire.specs.Letters.{space}
use Rattle.wire.specs.Text.{capital, capitals_then_spaces, shaped}

-- what may still come: only spaces once a space has come
abbrev pub rest : Bool → List ℕ → Bool
rest blank xs = pick blank (all_are space xs) (capitals_then_spaces xs)

-- the capitals are those of ASCII
pub upper : (b : ℕ) → is_ascii_uppercase b ≡ capital b
unfolding capital
upper b = refl

-- a capital is no space
no-space : (b : ℕ) → capital b ≡ true → eqb b space ≡ false
unfolding capital
no-space b h = ne_eqb b space (λ e. first (leb 65 b) (leb b 90) (λ l. omega (arith, leb-true 65 b l, e)) h)
  where
    first : (p q : Bool) → (p ≡ true → ⊥) → (p && q) ≡ true → ⊥
    first true q f e = f refl
    first false q f e = let z : ◌≡◌ {A = ℕ} 0 1 = cc in omega arith

judged : (capital? space? ok blank : Bool) (spaces shapely : Bool) → (capital? ≡ true → space? ≡ false)
    → (ok && pick blank (space? && spaces) (pick capital? shapely (space? && spaces)))
    ≡ ((ok && (space? || (not blank && capital?))) && pick (blank || space?) spaces shapely)
judged capital? space? false blank spaces shapely h = refl
judged true true true blank spaces shapely h = let z : ◌≡◌ {A = ℕ} 0 1 = cc (h refl) in absurd (omega arith)
judged true false true true spaces shapely h = refl
judged true false true false spaces shapely h = refl
judged false true true true spaces shapely h = refl
judged false true true false spaces shapely h = refl
judged false false true true spaces shapely h = refl
judged false false true false spaces shapely h = refl

-- one byte more
pub shaped-next : (s : List ℕ) (i : ℕ) (ok blank : Bool) → i < length s
    → (ok && rest blank (drop i s))
    ≡ ((ok && (eqb (get_or s i 0) space || (not blank && capital (get_or s i 0)))) && rest (blank || eqb (get_or s i 0) space) (drop (i + 1) s))
unfolding capitals_then_spaces all_are
shaped-next s i ok blank h =
    let b : ℕ = get_or s i 0 in
    let xs : List ℕ = drop (suc i) s in
    rw (add-one, drop-cons s i 0) (judged (capital b) (eqb b space) ok blank (all_are space xs) (capitals_then_spaces xs) (no-space b))

pub shaped-none : (s : List ℕ) → length s < 1 → false ≡ shaped s
unfolding shaped
shaped-none [] h = refl
shaped-none (b ∷ bs) h = absurd (omega arith)

-- of its first byte, and of the slice behind it
pub shaped-first : (s : List ℕ) → 1 ≤ length s → shaped s ≡ (capital (get_or s 0 0) && rest false (take (length s - 1) (drop 1 s)))
unfolding shaped
shaped-first [] h = absurd (omega arith)
shaped-first (b ∷ bs) h = rw (take_all (length (b ∷ bs) - 1) bs (omega arith)) refl

-- none is left
pub shaped-end : (s : List ℕ) (i : ℕ) (ok blank : Bool) → length s ≤ i → (ok && rest blank (drop i s)) ≡ ok
unfolding capitals_then_spaces all_are
shaped-end s i ok true h = rw (drop_of_length-le s {i = i} h) (and-true ok)
shaped-end s i ok false h = rw (drop_of_length-le s {i = i} h) (and-true ok)
