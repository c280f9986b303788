-- The laws of a number's bits, each over every width. A step of each is one halving: what is put together from a half and a lowest bit comes apart
-- into them. Assumes nothing.
use Rattle.octets.proofs.Proving.{Bool, ◌%◌, ◌*◌, ◌+◌, ◌/◌, ◌<◌, ◌^◌, ◌∙◌, ◌≡◌, ◌≢◌, ◌≤◌, ap, arith, dec_lt, eqb, false, false≢true, lit<, mod-lt, pow-suc, refl, suc, sym, true, zero, ℕ}
use lib.Pow.{shl_exact, shr-shr}
use native.Mathlib.Nat.{one-mul}
use Rattle.octets.specs.Choice.{pick}
use Rattle.octets.specs.Bits.{bit_of, with_bit}

-- ---- a half and a lowest bit

half : (q r : ℕ) → r < 2 → (2 * q + r) / 2 ≡ q
half q r h = omega arith

lowest : (q r : ℕ) → r < 2 → (2 * q + r) % 2 ≡ r
lowest q r h = omega arith

rest : (b : ℕ) → b % 2 < 2
rest b = mod-lt b (lit< tt)

said : (on : Bool) → pick on 1 0 < 2
said true = lit< tt
said false = lit< tt

said-again : (on : Bool) → eqb (pick on 1 0) 1 ≡ on
said-again true = refl
said-again false = refl

told : (r : ℕ) → r < 2 → pick (eqb r 1) 1 0 ≡ r
told zero h = refl
told (suc zero) h = refl
told (suc (suc r)) h = absurd (omega arith)

-- ---- one bit

-- what a shift leaves begins with bit k
pub bit_shifted : (b k : ℕ) → eqb (b / 2 ^ k % 2) 1 ≡ bit_of b k
unfolding bit_of
bit_shifted b zero = let e : b / 1 ≡ b = omega arith in ap (λ (x : ℕ). eqb (x % 2) 1) e
bit_shifted b (suc k) =
    let e : 1 + k ≡ suc k = omega arith in
    ap (λ (x : ℕ). eqb (x % 2) 1) (ap (λ (m : ℕ). b / 2 ^ m) (sym e) ∙ sym (shr-shr b 1 k)) ∙ bit_shifted (b / 2) k

pub bit-zero : (k : ℕ) → bit_of 0 k ≡ false
unfolding bit_of
bit-zero zero = refl
bit-zero (suc k) = bit-zero k

-- no bit past the width is set ..
pub bit_past : (w b k : ℕ) → b < 2 ^ w → w ≤ k → bit_of b k ≡ false
unfolding bit_of
bit_past zero b k h l = let z : b ≡ 0 = omega arith in ap (λ (x : ℕ). bit_of x k) z ∙ bit-zero k
bit_past (suc w) b zero h l = absurd (omega arith)
bit_past (suc w) b (suc k) h l = bit_past w (b / 2) k (omega (arith, pow-suc 2 w)) (omega arith)

-- .. so one that is set lies within it
pub bit-within : (w b k : ℕ) → b < 2 ^ w → bit_of b k ≡ true → k < w
bit-within w b k h e =
    elim (dec_lt k w) [
      | yes l ↦ l
      | no g ↦ absurd (false≢true (sym (bit_past w b k h (omega arith)) ∙ e))
    ]

-- ---- one bit changed

pub with-same : (b k : ℕ) (on : Bool) → bit_of (with_bit b k on) k ≡ on
unfolding bit_of with_bit
with-same b zero on = ap (λ (r : ℕ). eqb r 1) (lowest (b / 2) (pick on 1 0) (said on)) ∙ said-again on
with-same b (suc k) on = ap (λ (x : ℕ). bit_of x k) (half (with_bit (b / 2) k on) (b % 2) (rest b)) ∙ with-same (b / 2) k on

-- another bit stays
pub with-other : (b k j : ℕ) (on : Bool) → j ≢ k → bit_of (with_bit b k on) j ≡ bit_of b j
unfolding bit_of with_bit
with-other b zero zero on d = absurd (d refl)
with-other b zero (suc j) on d = ap (λ (x : ℕ). bit_of x j) (half (b / 2) (pick on 1 0) (said on))
with-other b (suc k) zero on d = ap (λ (r : ℕ). eqb r 1) (lowest (with_bit (b / 2) k on) (b % 2) (rest b))
with-other b (suc k) (suc j) on d =
    ap (λ (x : ℕ). bit_of x j) (half (with_bit (b / 2) k on) (b % 2) (rest b)) ∙ with-other (b / 2) k j on (λ e. d (ap suc e))

-- a bit within the width keeps the number within it
pub with-lt : (w b k : ℕ) (on : Bool) → k < w → b < 2 ^ w → with_bit b k on < 2 ^ w
unfolding with_bit
with-lt zero b k on h l = absurd (omega arith)
with-lt (suc w) b zero on h l = omega (arith, pow-suc 2 w, said on)
with-lt (suc w) b (suc k) on h l =
    let less : with_bit (b / 2) k on < 2 ^ w = with-lt w (b / 2) k on (omega arith) (omega (arith, pow-suc 2 w)) in
    omega (arith, pow-suc 2 w, rest b, less)

-- ---- as a sum

twice : (on : Bool) (k : ℕ) → pick on (2 ^ suc k) 0 ≡ 2 * pick on (2 ^ k) 0
twice true k = omega (arith, pow-suc 2 k)
twice false k = refl

-- a number is itself without a bit, and the bit where it is set ..
pub with-off : (b k : ℕ) → with_bit b k false + pick (bit_of b k) (2 ^ k) 0 ≡ b
unfolding bit_of with_bit
with-off b zero = omega (arith, told (b % 2) (rest b))
with-off b (suc k) = omega (arith, with-off (b / 2) k, twice (bit_of (b / 2) k) k)

-- .. and with the bit, it is that much more than without
pub with-on : (b k : ℕ) → with_bit b k true ≡ with_bit b k false + 2 ^ k
unfolding with_bit
with-on b zero = omega arith
with-on b (suc k) = omega (arith, with-on (b / 2) k, pow-suc 2 k)

module _ (b k : ℕ) where
  pub off_set : bit_of b k ≡ true → with_bit b k false + 2 ^ k ≡ b
  off_set e = ap (λ (t : Bool). with_bit b k false + pick t (2 ^ k) 0) (sym e) ∙ with-off b k

  pub off-unset : bit_of b k ≡ false → with_bit b k false ≡ b
  off-unset e =
      let unset : with_bit b k false + 0 ≡ b = ap (λ (t : Bool). with_bit b k false + pick t (2 ^ k) 0) (sym e) ∙ with-off b k in
      omega (arith, unset)

-- as said already: the same
pub with-kept : (b k : ℕ) (on : Bool) → bit_of b k ≡ on → with_bit b k on ≡ b
with-kept b k true e = with-on b k ∙ off_set b k e
with-kept b k false e = off-unset b k e

-- ---- in code

-- a shift of 1 that loses nothing
pub one_shifted : (k w : ℕ) → k < w → (1 * 2 ^ k) % 2 ^ w ≡ 2 ^ k
one_shifted k w h = shl_exact {a = 1} 1 k w (lit< tt) (omega arith) ∙ one-mul (2 ^ k)
