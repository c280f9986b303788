-- Laws of lists that the outbox needs and that speak of no ring. Assumes nothing.
use Rattle.octets.proofs.Proving.{List, ◌++◌, ◌+◌, ◌-◌, ◌<◌, ◌∙◌, ◌≡◌, ◌≤◌, ◌⊎◌, ap, append-nil, arith, dec_le, drop, drop_at, get_or, length, length-take-le, sym, take, take-add, take_all, take-append-add, take-append-drop, take-append-le, take-append_seam, ℕ, ⊎_elim}
use Rattle.octets.specs.Bytes.{put}
use Rattle.octets.proofs.Laws.{byte-part, part-put-before, part-put-after}

-- what follows the first j of a list's first h
pub drop-take : (j h : ℕ) (l : List ℕ) → j ≤ h → h ≤ length l → drop j (take h l) ≡ take (h - j) (drop j l)
drop-take j h l jh hl =
    let q : h ≡ j + (h - j) = omega arith in
    ap (λ (n : ℕ). drop j (take n l)) q
    ∙ ap (drop j) (take-add j (h - j) l)
    ∙ drop_at (take j l) (take (h - j) (drop j l)) j (length-take-le j l (omega arith))

-- the first h of two lists, one behind the other
pub take-both : (h : ℕ) (x y : List ℕ) → take h (x ++ y) ≡ take h x ++ take (h - length x) y
take-both h x y =
    elim (dec_le h (length x)) [
      | yes short ↦ let z : h - length x ≡ 0 = omega arith in rw (z, take-append-le h x y short) (sym (append-nil (take h x)))
      | no long ↦
          let q : h ≡ length x + (h - length x) = omega arith in
          ap (λ (n : ℕ). take n (x ++ y)) q
          ∙ take-append-add x y (h - length x)
          ∙ ap (λ (r : List ℕ). r ++ take (h - length x) y) (sym (take_all h x (omega arith)))
    ]

-- as many bytes as were taken are those that were taken
pub take-taken : (h : ℕ) (l : List ℕ) → take (length (take h l)) l ≡ take h l
take-taken h l = ap (take (length (take h l))) (sym (take-append-drop h l)) ∙ take-append_seam (take h l) (drop h l)

-- the byte at k of a list in which something was put before or behind it
pub byte-spared : (xs : List ℕ) (at : ℕ) (ys : List ℕ) (k : ℕ) → at + length ys ≤ length xs → (k < at) ⊎ (at + length ys ≤ k) → get_or (put xs at ys) k 0 ≡ get_or xs k 0
byte-spared xs at ys k fits away =
    sym (byte-part (put xs at ys) k)
    ∙ ap (λ (l : List ℕ). get_or l 0 0) (⊎_elim (λ h. part-put-before xs at ys fits k 1 (omega arith)) (λ h. part-put-after xs at ys fits k 1 h) away)
    ∙ byte-part xs k
