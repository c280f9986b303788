-- The laws of a row of bits: past the row none is set, one changes alone, and rows with the same bits are the same bytes. Assumes nothing.
use Rattle.octets.proofs.Proving.{Bool, List, List·get_d-eq-default, ◌%◌, ◌*◌, ◌+◌, ◌/◌, ◌<◌, ◌∙◌, ◌≡◌, ◌≢◌, ◌≤◌, add-one, ap, ap₂, arith, dec_lt, false, get_or, get_or-set_same, le-ltb, length, length-set, lit<, lt-ltb, mod-lt, refl, set, set_split, suc, sym, take, zero, ℕ, ℕ_discrete}
use Rattle.std.specs.List.{sum_by}
use Rattle.std.proofs.lemmas.List.{take_all}
use Rattle.std.proofs.lemmas.List.Sums.{sum_by_more}
use lib.Count.{ones}
use lib.Seq.{ext_get_or, get_or-set_other, set-get_or, set_out}
use Rattle.octets.specs.Choice.{count_below}
use Rattle.octets.specs.Bytes.{zeros}
use Rattle.octets.specs.Bits.{bit_of, with_bit}
use Rattle.octets.proofs.BitLaws as Bits
use Rattle.octets.proofs.Counted.{count_same}
use Rattle.bitrow.specs.Row.{bytes_for, bit_at, with_bit_at}
use Rattle.bitrow.proofs.Halves.{count-split}
use Rattle.bitrow.proofs.Width.{bits-only, ones-count}

-- each is a byte
abbrev pub Bytes : List ℕ → Type 0
Bytes xs = (k : ℕ) → get_or xs k 0 < 256

-- n bits have room in so many bytes, and in no fewer
pub room_for : (n m : ℕ) → bytes_for n ≤ m → n ≤ 8 * m
unfolding bytes_for
room_for n m h = omega arith

pub no-fewer : (n m : ℕ) → n ≤ 8 * m → bytes_for n ≤ m
unfolding bytes_for
no-fewer n m h = omega arith

-- bit j of byte q
pub bit_byte : (xs : List ℕ) (q j : ℕ) → j < 8 → bit_at xs (8 * q + j) ≡ bit_of (get_or xs q 0) j
unfolding bit_at
bit_byte xs q j h =
    let e : (8 * q + j) / 8 ≡ q = omega arith in
    let f : (8 * q + j) % 8 ≡ j = omega arith in
    ap₂ (λ (a k : ℕ). bit_of (get_or xs a 0) k) e f

-- the bits of the bytes to k, and those of byte k
ones-next : (xs : List ℕ) (k : ℕ) → get_or xs k 0 < 256 → count_below (8 * (k + 1)) (bit_at xs) ≡ count_below (8 * k) (bit_at xs) + ones (get_or xs k 0)
ones-next xs k h =
    let e : 8 * (k + 1) ≡ 8 * k + 8 = omega arith in
    let byte : count_below 8 (λ j. bit_at xs (8 * k + j)) ≡ ones (get_or xs k 0) =
    count_same _ (bit_of (get_or xs k 0)) 8 (bit_byte xs k) ∙ sym (ones-count 8 (get_or xs k 0) h) in
    ap (λ (m : ℕ). count_below m (bit_at xs)) e ∙ count-split (bit_at xs) (8 * k) 8 ∙ ap (λ (m : ℕ). count_below (8 * k) (bit_at xs) + m) byte

-- and so the bits of the whole row
pub ones-all : (xs : List ℕ) → Bytes xs → sum_by ones xs ≡ count_below (8 * length xs) (bit_at xs)
unfolding count_below
ones-all xs bytes = ap (sum_by ones) (sym (take_all (length xs) xs (omega arith))) ∙ so-far (length xs) (omega arith)
  where
    so-far : (k : ℕ) → k ≤ length xs → sum_by ones (take k xs) ≡ count_below (8 * k) (bit_at xs)
    so-far zero h = refl
    so-far (suc k) h =
        let here : sum_by ones (take k xs) ≡ count_below (8 * k) (bit_at xs) = so-far k (omega arith) in
        let more : sum_by ones (take (k + 1) xs) ≡ sum_by ones (take k xs) + ones (get_or xs k 0) = sum_by_more ones xs k 0 (omega arith) in
        rw add-one at (more ∙ ap (λ (m : ℕ). m + ones (get_or xs k 0)) here ∙ sym (ones-next xs k (bytes k)))

-- ---- bits that are not set

-- in a byte of 0
pub zero-byte : (xs : List ℕ) (i : ℕ) → get_or xs (i / 8) 0 ≡ 0 → bit_at xs i ≡ false
unfolding bit_at
zero-byte xs i e = ap (λ (x : ℕ). bit_of x (i % 8)) e ∙ Bits.bit-zero (i % 8)

pub bit-past-row : (xs : List ℕ) (i : ℕ) → 8 * length xs ≤ i → bit_at xs i ≡ false
bit-past-row xs i h = zero-byte xs i (List·get_d-eq-default xs 0 {n = i / 8} (omega arith))

pub zeros-clear : (m i : ℕ) → bit_at (zeros m) i ≡ false
zeros-clear m i = zero-byte (zeros m) i (zero-at m (i / 8))
  where
    zero-at : (m k : ℕ) → get_or (zeros m) k 0 ≡ 0
    zero-at zero k = refl
    zero-at (suc m) zero = refl
    zero-at (suc m) (suc k) = zero-at m k

-- ---- one bit changed

-- the byte in which it lies, afterwards
abbrev pub changed : List ℕ → ℕ → Bool → ℕ
changed xs i on = with_bit (get_or xs (i / 8) 0) (i % 8) on

module _ (xs : List ℕ) (i : ℕ) (on : Bool) where
  -- a byte is set, and past the row there is none to set
  pub with-set : with_bit_at xs i on ≡ set xs (i / 8) (changed xs i on)
  unfolding with_bit_at
  with-set =
      elim (dec_lt i (8 * length xs)) [
        | yes h ↦ rw (lt-ltb i (8 * length xs) h, set_split xs (i / 8) (changed xs i on) (omega arith), add-one)
        | no g ↦ rw (le-ltb i (8 * length xs) (omega arith), set_out xs (i / 8) (changed xs i on) (omega arith))
      ]

  pub length-with : length (with_bit_at xs i on) ≡ length xs
  length-with = ap length with-set ∙ length-set xs (i / 8) (changed xs i on)

  pub with-past : 8 * length xs ≤ i → with_bit_at xs i on ≡ xs
  with-past h = with-set ∙ set_out xs (i / 8) (changed xs i on) (omega arith)

  -- its byte, and the others
  own : i < 8 * length xs → get_or (with_bit_at xs i on) (i / 8) 0 ≡ changed xs i on
  own h = ap (λ (l : List ℕ). get_or l (i / 8) 0) with-set ∙ get_or-set_same xs (i / 8) (changed xs i on) 0 (omega arith)

  other : (q : ℕ) → q ≢ i / 8 → get_or (with_bit_at xs i on) q 0 ≡ get_or xs q 0
  other q d = ap (λ (l : List ℕ). get_or l q 0) with-set ∙ get_or-set_other xs (i / 8) q (changed xs i on) 0 d

  pub bit-own : i < 8 * length xs → bit_at (with_bit_at xs i on) i ≡ on
  unfolding bit_at
  bit-own h = ap (λ (x : ℕ). bit_of x (i % 8)) (own h) ∙ Bits.with-same (get_or xs (i / 8) 0) (i % 8) on

  pub bit-other : (j : ℕ) → j ≢ i → bit_at (with_bit_at xs i on) j ≡ bit_at xs j
  unfolding bit_at
  bit-other j d =
      elim (dec_lt i (8 * length xs)) [
        | yes h ↦ elim (ℕ_discrete (j / 8) (i / 8)) [
          | yes e ↦
              ap (λ (q : ℕ). bit_of (get_or (with_bit_at xs i on) q 0) (j % 8)) e
              ∙ ap (λ (x : ℕ). bit_of x (j % 8)) (own h)
              ∙ Bits.with-other (get_or xs (i / 8) 0) (i % 8) (j % 8) on (λ r. d (omega arith))
              ∙ ap (λ (q : ℕ). bit_of (get_or xs q 0) (j % 8)) (sym e)
          | no e ↦ ap (λ (x : ℕ). bit_of x (j % 8)) (other (j / 8) e)
        ]
        | no g ↦ ap (λ (l : List ℕ). bit_at l j) (with-past (omega arith))
      ]

  pub with-bytes : Bytes xs → Bytes (with_bit_at xs i on)
  with-bytes b k =
      elim (dec_lt i (8 * length xs)) [
        | yes h ↦ elim (ℕ_discrete k (i / 8)) [
          | yes e ↦
              let byte : changed xs i on < 256 = Bits.with-lt 8 (get_or xs (i / 8) 0) (i % 8) on (mod-lt i (lit< tt)) (b (i / 8)) in
              omega (arith, ap (λ (q : ℕ). get_or (with_bit_at xs i on) q 0) e, own h, byte)
          | no e ↦ omega (arith, other k e, b k)
        ]
        | no g ↦ omega (arith, ap (λ (l : List ℕ). get_or l k 0) (with-past (omega arith)), b k)
      ]

  -- as said already: the same row
  pub with-kept : bit_at xs i ≡ on → with_bit_at xs i on ≡ xs
  unfolding bit_at
  with-kept e = with-set ∙ ap (set xs (i / 8)) (Bits.with-kept (get_or xs (i / 8) 0) (i % 8) on e) ∙ set-get_or xs (i / 8) 0

-- ---- rows told by their bits

pub row-only : (xs ys : List ℕ) → Bytes xs → Bytes ys → length xs ≡ length ys → ((i : ℕ) → bit_at xs i ≡ bit_at ys i) → xs ≡ ys
row-only xs ys b d e same =
    ext_get_or 0 xs ys e (λ q h. bits-only 8 (get_or xs q 0) (get_or ys q 0) (b q) (d q) (λ j l. sym (bit_byte xs q j l) ∙ same (8 * q + j) ∙ bit_byte ys q j l))
