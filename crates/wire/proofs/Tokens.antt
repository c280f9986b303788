-- The first byte that no token holds, looked for from left to right: what one byte more does to the search. Assumes nothing.
use Rattle.octets.proofs.Proving.{List, ◌+◌, ◌-◌, ◌<◌, ◌∙◌, ◌∷◌, ◌≡◌, ◌≤◌, add-one, ap, arith, drop-cons, false, get_or, length, suc, true, ℕ}
use Rattle.std.specs.Prelude.{None, Some}
use Rattle.octets.specs.Bytes.{part}
use Rattle.wire.specs.Text.{token_byte}
use Rattle.wire.specs.Layout.{bad_token_byte}

-- what is left of the bytes up to `end` is the byte at i and what is left behind it
left : (s : List ℕ) (end i : ℕ) → i < end → end ≤ length s → part s i (end - i) ≡ get_or s i 0 ∷ part s (i + 1) (end - (i + 1))
left s end i h l =
    let e : end - i ≡ suc (end - (i + 1)) = omega arith in
    rw (e, add-one, drop-cons s i 0 (omega arith))

module _ (s : List ℕ) (end i : ℕ) (h : i < end) (l : end ≤ length s) where
  pub token-next : token_byte (get_or s i 0) ≡ true → bad_token_byte i (part s i (end - i)) ≡ bad_token_byte (i + 1) (part s (i + 1) (end - (i + 1)))
  unfolding bad_token_byte
  token-next t =
      let e : 1 + i ≡ i + 1 = omega arith in
      ap (bad_token_byte i) (left s end i h l) ∙ rw (t, e)

  pub token-bad : token_byte (get_or s i 0) ≡ false → bad_token_byte i (part s i (end - i)) ≡ Some i
  unfolding bad_token_byte
  token-bad t = ap (bad_token_byte i) (left s end i h l) ∙ rw t

-- none is left
pub token_end_lem : (s : List ℕ) (end i : ℕ) → end ≤ i → bad_token_byte i (part s i (end - i)) ≡ None
unfolding bad_token_byte
token_end_lem s end i h =
    let e : end - i ≡ 0 = omega arith in
    rw e
