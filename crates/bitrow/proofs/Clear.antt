-- The laws of a row that is clear from a bit on: that bit by bit, byte by byte, and what a test of every bit comes to. Assumes nothing.
use Rattle.octets.proofs.Proving.{Bool, List, List·get_d-eq-default, ◌%◌, ◌&&◌, ◌*◌, ◌+◌, ◌-◌, ◌/◌, ◌<◌, ◌^◌, ◌∙◌, ◌≡◌, ◌≤◌, ap, ap₂, arith, dec_lt, eq-eqb, eqb, eqb-true, false, get_or, le-ltb, length, lt-ltb, ltb, ltb-true, not, not-true, refl, sym, true, ℕ, ℕ_discrete}
use mathlib.Core.Bool.{beq}
use Rattle.octets.specs.Choice.{all_below, count_below}
use Rattle.octets.specs.Bytes.{part, all_are}
use Rattle.octets.specs.Bits.{bit_of}
use Rattle.octets.proofs.Below.{all-at, all-each, all_same, both, part-are}
use Rattle.octets.proofs.BitLaws.{bit_past}
use Rattle.octets.proofs.Counted.{count_same, count-zero}
use Rattle.bitrow.specs.Row.{bit_at, ones_in, clear_from}
use Rattle.bitrow.proofs.Halves.{all_split, count-split}
use Rattle.bitrow.proofs.Width.{no_bits, no-bits-from}
use Rattle.bitrow.proofs.Rows.{Bytes, bit_byte, bit-past-row, zero-byte}

module _ (xs : List ℕ) (n : ℕ) where
  -- ---- bit by bit

  pub clear-each : clear_from xs n ≡ true → (i : ℕ) → n ≤ i → bit_at xs i ≡ false
  unfolding clear_from
  clear-each clear i h =
      elim (dec_lt i (8 * length xs)) [
        | yes l ↦
            let e : n + (i - n) ≡ i = omega arith in
            ap (bit_at xs) (sym e)
            ∙ not-true (bit_at xs (n + (i - n))) (all-at (λ j. not (bit_at xs (n + j))) (8 * length xs - n) (i - n) clear (omega arith))
        | no g ↦ bit-past-row xs i (omega arith)
      ]

  pub each-clear : ((i : ℕ) → n ≤ i → bit_at xs i ≡ false) → clear_from xs n ≡ true
  unfolding clear_from
  each-clear none = all-each (λ j. not (bit_at xs (n + j))) (8 * length xs - n) (λ j l. ap not (none (n + j) (omega arith)))

  -- ---- what a test of every bit comes to, where bits are set only below n

  module _ (p : ℕ → Bool) (fits : n ≤ 8 * length xs) where
    all : n + (8 * length xs - n) ≡ 8 * length xs
    all = omega arith

    -- a row says below n what p says, and nothing past it
    pub split : all_below (8 * length xs) (λ i. beq (bit_at xs i) (ltb i n && p i)) ≡ (all_below n (λ i. beq (bit_at xs i) (p i)) && clear_from xs n)
    unfolding clear_from
    split =
        let agrees : ℕ → Bool = λ i. beq (bit_at xs i) (ltb i n && p i) in
        ap (λ (m : ℕ). all_below m agrees) (sym all) ∙ all_split agrees n (8 * length xs - n)
        ∙ ap₂ ◌&&◌
        (all_same agrees _ n (λ i l. ap (λ (t : Bool). beq (bit_at xs i) (t && p i)) (lt-ltb i n l)))
        (all_same _ _ (8 * length xs - n) (λ j l. ap (λ (t : Bool). beq (bit_at xs (n + j)) (t && p (n + j))) (le-ltb (n + j) n (omega arith)) ∙ unset (bit_at xs (n + j))))
      where
        unset : (b : Bool) → beq b false ≡ not b
        unset true = refl
        unset false = refl

    -- so the row's ones are those of which p holds
    pub ones-agree : ((i : ℕ) → i < n → bit_at xs i ≡ p i) → clear_from xs n ≡ true → ones_in xs ≡ count_below n p
    unfolding ones_in
    ones-agree agree clear =
        let behind : ℕ = 8 * length xs - n in
        ap (λ (m : ℕ). count_below m (bit_at xs)) (sym all) ∙ count-split (bit_at xs) n behind
        ∙ omega (arith, count_same (bit_at xs) p n agree, count-zero (λ j. bit_at xs (n + j)) behind (λ j l. clear-each clear (n + j) (omega arith)))

  -- ---- byte by byte: the one in which n lies is below a power of 2, those behind it are 0

  module _ (bytes : Bytes xs) (within : n / 8 < length xs) where
    abbrev low : Bool
    low = ltb (get_or xs (n / 8) 0) (2 ^ (n % 8))

    abbrev rest : Bool
    rest = all_below (length xs - (n / 8 + 1)) (λ k. eqb (get_or xs (n / 8 + 1 + k) 0) 0)

    behind : rest ≡ true → (q : ℕ) → n / 8 < q → get_or xs q 0 ≡ 0
    behind zero-all q h =
        elim (dec_lt q (length xs)) [
          | yes l ↦
              let e : n / 8 + 1 + (q - (n / 8 + 1)) ≡ q = omega arith in
              ap (λ (k : ℕ). get_or xs k 0) (sym e) ∙ eqb-true _ 0 (all-at (λ k. eqb (get_or xs (n / 8 + 1 + k) 0) 0) _ (q - (n / 8 + 1)) zero-all (omega arith))
          | no g ↦ List·get_d-eq-default xs 0 {n = q} (omega arith)
        ]

    bytes_bits : low && rest ≡ true → (i : ℕ) → n ≤ i → bit_at xs i ≡ false
    unfolding bit_at
    bytes_bits told i h =
        let b = both low rest told in
        elim (ℕ_discrete (i / 8) (n / 8)) [
          | yes e ↦
              ap (λ (q : ℕ). bit_of (get_or xs q 0) (i % 8)) e
              ∙ bit_past (n % 8) (get_or xs (n / 8) 0) (i % 8) (ltb-true _ _ b.0) (omega arith)
          | no d ↦ zero-byte xs i (behind b.1 (i / 8) (omega arith))
        ]

    bits-low : ((i : ℕ) → n ≤ i → bit_at xs i ≡ false) → low ≡ true
    bits-low none =
        lt-ltb _ _ (no-bits-from 8 (get_or xs (n / 8) 0) (n % 8) (bytes (n / 8)) (λ j l.
        elim (dec_lt j 8) [
          | yes s ↦ sym (bit_byte xs (n / 8) j s) ∙ none (8 * (n / 8) + j) (omega arith)
          | no g ↦ bit_past 8 (get_or xs (n / 8) 0) j (bytes (n / 8)) (omega arith)
        ]))

    bits-rest : ((i : ℕ) → n ≤ i → bit_at xs i ≡ false) → rest ≡ true
    bits-rest none =
        all-each _ _ (λ k l.
        let q : ℕ = n / 8 + 1 + k in
        eq-eqb _ 0 (no_bits 8 (get_or xs q 0) (bytes q) (λ j s. sym (bit_byte xs q j s) ∙ none (8 * q + j) (omega arith))))

    pub clear-bytes : (low && all_are 0 (part xs (n / 8 + 1) (length xs - (n / 8 + 1)))) ≡ clear_from xs n
    clear-bytes =
        ap (λ (b : Bool). low && b) (sym (part-are 0 xs (n / 8 + 1) (length xs - (n / 8 + 1)) (omega arith)))
        ∙ alike (low && rest) (clear_from xs n) (λ told. each-clear (bytes_bits told))
        (λ clear. ap₂ ◌&&◌ (bits-low (clear-each clear)) (bits-rest (clear-each clear)))
      where
        alike : (a b : Bool) → (a ≡ true → b ≡ true) → (b ≡ true → a ≡ true) → a ≡ b
        alike true b f g = sym (f refl)
        alike false true f g = g refl
        alike false false f g = refl
