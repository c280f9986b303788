-- The laws of a number that is made bit by bit: each bit is as said, none is set past them, and it is the number with these bits. Assumes nothing.
use Rattle.octets.proofs.Proving.{Bool, ◌<◌, ◌^◌, ◌∙◌, ◌≡◌, ap, ap₂, arith, eq-eqb, eqb, eqb-true, false, false≢true, lit<, pow-suc, refl, suc, sym, true, zero, ℕ, ℕ_discrete}
use mathlib.Core.Bool.{beq}
use Rattle.octets.specs.Choice.{all_below}
use Rattle.octets.specs.Bits.{bit_of, with_bit}
use Rattle.octets.proofs.Below.{all-at, all-each}
use Rattle.octets.proofs.BitLaws.{with-same, with-other, with-lt}
use Rattle.bitrow.specs.Row.{packed}
use Rattle.bitrow.proofs.Width.{bits-only}

module _ (p : ℕ → Bool) where
  pub packed_lt : (w : ℕ) → packed w p < 2 ^ w
  unfolding packed
  packed_lt zero = lit< tt
  packed_lt (suc w) =
      let below : packed w p < 2 ^ w = packed_lt w in
      with-lt (suc w) (packed w p) w (p w) (omega arith) (omega (arith, below, pow-suc 2 w))

  pub packed-bit : (w j : ℕ) → j < w → bit_of (packed w p) j ≡ p j
  unfolding packed
  packed-bit zero j l = absurd (omega arith)
  packed-bit (suc w) j l =
      elim (ℕ_discrete j w) [
        | yes e ↦ ap (bit_of (with_bit (packed w p) w (p w))) e ∙ with-same (packed w p) w (p w) ∙ ap p (sym e)
        | no d ↦ with-other (packed w p) w j (p w) d ∙ packed-bit w j (omega arith)
      ]

pub same_bool : (a b : Bool) → beq a b ≡ true → a ≡ b
same_bool true true e = refl
same_bool true false e = absurd (false≢true e)
same_bool false true e = absurd (false≢true e)
same_bool false false e = refl

pub bool_same : (a : Bool) → beq a a ≡ true
bool_same true = refl
bool_same false = refl

-- to compare with it is to compare bit by bit
pub packed-is : (p : ℕ → Bool) (w b : ℕ) → b < 2 ^ w → eqb b (packed w p) ≡ all_below w (λ j. beq (bit_of b j) (p j))
packed-is p w b h = by (eqb b (packed w p)) (all_below w alike) refl refl
  where
    alike : ℕ → Bool
    alike j = beq (bit_of b j) (p j)

    each : eqb b (packed w p) ≡ true → all_below w alike ≡ true
    each e =
        let same : b ≡ packed w p = eqb-true b (packed w p) e in
        all-each alike w (λ j l. ap₂ beq (ap (λ (x : ℕ). bit_of x j) same ∙ packed-bit p w j l) refl ∙ bool_same (p j))

    whole : all_below w alike ≡ true → eqb b (packed w p) ≡ true
    whole e = eq-eqb b (packed w p) (bits-only w b (packed w p) h (packed_lt p w) (λ j l. same_bool (bit_of b j) (p j) (all-at alike w j e l) ∙ sym (packed-bit p w j l)))

    by : (x y : Bool) → eqb b (packed w p) ≡ x → all_below w alike ≡ y → x ≡ y
    by true true e f = refl
    by false false e f = refl
    by true false e f = absurd (false≢true (sym f ∙ each e))
    by false true e f = absurd (false≢true (sym e ∙ whole f))
