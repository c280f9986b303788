-- Eight bits looked at from the lowest on, each cleared once it was looked at: what is left are those that were not, and the first record among them
-- that passes is the first of all eight. Assumes nothing.
use Rattle.octets.proofs.Proving.{Bool, List, ◌&&◌, ◌*◌, ◌+◌, ◌-◌, ◌<◌, ◌^◌, ◌∙◌, ◌≡◌, ◌≢◌, ◌≤◌, ap, arith, dec_lt, false, false≢true, get_or, lit<, pow-le-pow_right, refl, sym, true, ℕ, ℕ_discrete}
use Rattle.octets.specs.Choice.{first_below}
use Rattle.octets.specs.Bits.{bit_of, with_bit}
use Rattle.octets.proofs.BitLaws.{bit-zero, with-same, with-other, with-lt, off_set}
use Rattle.octets.proofs.First.{First, first-is, first-none, first-only, none_only}
use Rattle.bitrow.specs.Row.{bit_at}
use Rattle.bitrow.proofs.Rows.{bit_byte}
use Rattle.bitrow.proofs.Width.{no_bits}

-- tests that agree below the bound
pub first_alike : (p q : ℕ → Bool) (n : ℕ) → ((j : ℕ) → j < n → p j ≡ q j) → first_below n p ≡ first_below n q
first_alike p q n agree =
    elim (dec_lt (first_below n q) n) [
      | yes l ↦
          let f = first-is q n l in
          first-only p n (first_below n q)
          record { below = l; holds = agree _ l ∙ f.holds; none_before = λ j k. agree j (omega (arith, k, l)) ∙ f.none_before j k }
      | no g ↦
          let none = first-none q n (omega arith) in
          none_only p n (λ j l. agree j l ∙ none j l) ∙ sym (none_only q n none)
    ]

-- `left` are the bits of b that were not looked at, and of the others the test does not hold
pub record Looking (b : ℕ) (test : ℕ → Bool) (left : ℕ) : Type 0 where
  pub small : left < 2 ^ 8
  pub of-b : (j : ℕ) → bit_of left j ≡ true → bit_of b j ≡ true
  pub past : (j : ℕ) → bit_of b j ≡ true → bit_of left j ≡ false → test j ≡ false

pub look-start : (b : ℕ) (test : ℕ → Bool) → b < 2 ^ 8 → Looking b test b
look-start b test h = record { small = h; of-b = λ j e. e; past = λ j e f. absurd (false≢true (sym f ∙ e)) }

-- where a bit is left, the lowest is one that is set, with none below it
pub lowest-is : (left : ℕ) → left < 2 ^ 8 → left ≢ 0 → First 8 (bit_of left) (first_below 8 (bit_of left))
lowest-is left small some =
    elim (dec_lt (first_below 8 (bit_of left)) 8) [
      | yes l ↦ first-is (bit_of left) 8 l
      | no g ↦ absurd (some (no_bits 8 left small (first-none (bit_of left) 8 (omega arith))))
    ]

module _ (b : ℕ) (test : ℕ → Bool) (left : ℕ) (here : Looking b test left) where
  abbrev passes : ℕ → Bool
  passes j = bit_of b j && test j

  -- a bit that is no longer left
  fails : (j : ℕ) → bit_of left j ≡ false → passes j ≡ false
  fails j gone = by (bit_of b j) refl
    where
      by : (x : Bool) → bit_of b j ≡ x → (x && test j) ≡ false
      by true e = here.past j e gone
      by false e = refl

  module _ (some : left ≢ 0) where
    abbrev k : ℕ
    k = first_below 8 (bit_of left)

    lowest : First 8 (bit_of left) k
    lowest = lowest-is left here.small some

    pub look-found : test k ≡ true → k ≡ first_below 8 passes
    look-found e =
        sym (first-only passes 8 k record {
          below = lowest.below;
          holds = rw (here.of-b k lowest.holds) e;
          none_before = λ j l. fails j (lowest.none_before j l);
        })

    pub look-fewer : with_bit left k false < left
    look-fewer =
        let some-bit : 2 ^ 0 ≤ 2 ^ k = pow-le-pow_right {n = 2} (lit< tt) {i = 0} {j = k} (omega arith) in
        omega (arith, off_set left k lowest.holds, some-bit)

    pub look-next : test k ≡ false → Looking b test (with_bit left k false)
    look-next e =
        record {
          small = with-lt 8 left k false lowest.below here.small;
          of-b = λ j f. here.of-b j (sym (kept j f) ∙ f);
          past = λ j f g. elim (ℕ_discrete j k) [
            | yes q ↦ ap test q ∙ e
            | no d ↦ here.past j f (sym (with-other left k j false d) ∙ g)
          ];
        }
      where
        kept : (j : ℕ) → bit_of (with_bit left k false) j ≡ true → bit_of (with_bit left k false) j ≡ bit_of left j
        kept j f =
            elim (ℕ_discrete j k) [
              | yes q ↦ absurd (false≢true (sym (ap (bit_of (with_bit left k false)) q ∙ with-same left k false) ∙ f))
              | no d ↦ with-other left k j false d
            ]

  pub look_none : left ≡ 0 → first_below 8 passes ≡ 8
  look_none e = none_only passes 8 (λ j l. fails j (ap (λ (x : ℕ). bit_of x j) e ∙ bit-zero j))

-- the eight bits of a byte are bits of the row
pub among-row : (xs : List ℕ) (at : ℕ) (test : ℕ → Bool) → first_below 8 (λ j. bit_of (get_or xs at 0) j && test j) ≡ first_below 8 (λ j. bit_at xs (8 * at + j) && test j)
among-row xs at test = first_alike _ _ 8 (λ j l. ap (λ (b : Bool). b && test j) (sym (bit_byte xs at j l)))

-- ---- eight after eight

module _ (p : ℕ → Bool) (at : ℕ) (none : (j : ℕ) → j < 8 * at → p j ≡ false) where
  abbrev next : ℕ
  next = first_below 8 (λ j. p (8 * at + j))

  -- none before `next` among the eight, and none before them
  before : (n : ℕ) → ((j : ℕ) → j < n → p (8 * at + j) ≡ false) → (j : ℕ) → j < 8 * at + n → p j ≡ false
  before n none_here j l =
      elim (dec_lt j (8 * at)) [
        | yes k ↦ none j k
        | no g ↦ let e : 8 * at + (j - 8 * at) ≡ j = omega arith in ap p (sym e) ∙ none_here (j - 8 * at) (omega arith)
      ]

  pub eight-found : next < 8 → (p (8 * at + next) ≡ true) × ((j : ℕ) → j < 8 * at + next → p j ≡ false)
  eight-found l = let f = first-is (λ j. p (8 * at + j)) 8 l in (f.holds, before next f.none_before)

  pub eight-none : 8 ≤ next → (j : ℕ) → j < 8 * (at + 1) → p j ≡ false
  eight-none g j l = before 8 (first-none (λ j. p (8 * at + j)) 8 g) j (omega arith)
