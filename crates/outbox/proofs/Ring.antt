-- A ring seen from a place on, around its end. Wrapping is proved here and nowhere else: three facts about places, and one law about
-- rings of every length, `from-around`. What is said of a byte and of a store follows from that law. Assumes nothing.
use Rattle.octets.proofs.Proving.{Bool, List, List·get_d-append, ◌++◌, ◌+◌, ◌-◌, ◌<◌, ◌∙◌, ◌≡◌, ◌≤◌, add-zero, ap, append_assoc, arith, drop, drop-append-add, drop-append-le, drop_at, drop-drop, false, get_or, get_or-drop, le-ltb, length, length-append, length-drop, length-take-le, lt-ltb, ltb, ltb-false, ltb-true, refl, sym, take, take-add, take-append-add, take-append-drop, take-append-le, take_at, take-take, true, zero-add, ℕ}
use Rattle.octets.specs.Choice.{pick}
use Rattle.octets.specs.Bytes.{put}
use Rattle.octets.proofs.Laws.{length-put, put-left}
use Rattle.outbox.specs.Outbox.{around, from, back}

-- ---- there and back

-- a ring in two pieces, seen from the second
pub from_at : (p q : List ℕ) (k : ℕ) → length p ≡ k → from k (p ++ q) ≡ q ++ p
unfolding from
from_at p q k e = rw (drop_at p q k e, take_at p q k e)

pub length_from : (k : ℕ) (ring : List ℕ) → k ≤ length ring → length (from k ring) ≡ length ring
unfolding from
length_from k ring h = simp (length-append, length-drop, length-take-le k ring h) (omega arith)

pub length_back : (k : ℕ) (seen : List ℕ) → length (back k seen) ≡ length seen
unfolding back
length_back k seen = length_from (length seen - k) seen (omega arith)

pub back_from : (k : ℕ) (ring : List ℕ) → k ≤ length ring → back k (from k ring) ≡ ring
unfolding back from
back_from k ring h =
    ap (λ (n : ℕ). from (n - k) (from k ring)) (length_from k ring h)
    ∙ from_at (drop k ring) (take k ring) (length ring - k) (length-drop k ring)
    ∙ take-append-drop k ring

pub from_back : (k : ℕ) (seen : List ℕ) → k ≤ length seen → from k (back k seen) ≡ seen
unfolding back from
from_back k seen h =
    let j = length seen - k in
    from_at (drop j seen) (take j seen) k (length-drop j seen ∙ omega arith) ∙ take-append-drop j seen

-- ---- around the end

pub around-below : (n place : ℕ) → place < n + n → around n place < n
around-below n place h = go (ltb place n) refl
  where
    go : (b : Bool) → ltb place n ≡ b → pick b place (place - n) < n
    go true e = ltb-true _ _ e
    go false e = omega (arith, ltb-false place n e)

-- from a place on to the end and no further, one stands at the start
pub around-end : (n place to_end : ℕ) → around n place + to_end ≡ n → place + to_end < n + n → around n (place + to_end) ≡ 0
around-end n place to_end reach h = go (ltb place n) refl reach
  where
    go : (b : Bool) → ltb place n ≡ b → pick b place (place - n) + to_end ≡ n → around n (place + to_end) ≡ 0
    go true e r =
        let past : n ≤ place + to_end = omega arith in
        simp (le-ltb (place + to_end) n past) (omega arith)
    go false e r =
        let past : n ≤ place = ltb-false _ _ e in
        let no_way : ⊥ = omega arith in
        absurd no_way

-- every place of the ring is seen: which byte from place a on stands at place i
pub around-back : (n a i : ℕ) → a < n → i < n → around n (a + around n (i + (n - a))) ≡ i
around-back n a i ha hi = go (ltb (i + (n - a)) n) refl
  where
    go : (b : Bool) → ltb (i + (n - a)) n ≡ b → around n (a + pick b (i + (n - a)) (i + (n - a) - n)) ≡ i
    go true e =
        let h : i + (n - a) < n = ltb-true _ _ e in
        let past : n ≤ a + (i + (n - a)) = omega arith in
        simp (le-ltb (a + (i + (n - a))) n past) (omega arith)
    go false e =
        let h : n ≤ i + (n - a) = ltb-false _ _ e in
        let q : a + (i + (n - a) - n) ≡ i = omega arith in
        rw (q, lt-ltb i n hi)

-- the place moves on by j: the same as looking on from the j-th byte that was seen
pub from-around : (a j : ℕ) (ring : List ℕ) → a ≤ length ring → j ≤ length ring → from (around (length ring) (a + j)) ring ≡ from j (from a ring)
unfolding from
from-around a j ring ha hj = go (ltb (a + j) (length ring)) refl
  where
    go : (b : Bool) → ltb (a + j) (length ring) ≡ b
        → drop (pick b (a + j) (a + j - length ring)) ring ++ take (pick b (a + j) (a + j - length ring)) ring
        ≡ drop j (drop a ring ++ take a ring) ++ take j (drop a ring ++ take a ring)
    go true e =
        let h : a + j < length ring = ltb-true _ _ e in
        let hd : j ≤ length (drop a ring) = rw length-drop (omega arith) in
        rw (drop-append-le j (drop a ring) (take a ring) hd, take-append-le j (drop a ring) (take a ring) hd, drop-drop j a ring, take-add a j ring)
        (sym (append_assoc (drop (a + j) ring) (take a ring) (take j (drop a ring))))
    go false e =
        let h : length ring ≤ a + j = ltb-false _ _ e in
        let i = a + j - length ring in
        let q : j ≡ length (drop a ring) + i = rw length-drop (omega arith) in
        let hi : i ≤ length (take a ring) = rw (length-take-le a ring ha) (omega arith) in
        let ia : i ≤ a = omega arith in
        ap (λ (x : List ℕ). drop i x ++ take i ring) (sym (take-append-drop a ring))
        ∙ ap (λ (x : List ℕ). x ++ take i ring) (drop-append-le i (take a ring) (drop a ring) hi)
        ∙ append_assoc (drop i (take a ring)) (drop a ring) (take i ring)
        ∙ ap (λ (x : List ℕ). drop i (take a ring) ++ (drop a ring ++ x)) (sym (take-take i a ring ia))
        ∙ sym (ap (λ (n : ℕ). drop n (drop a ring ++ take a ring) ++ take n (drop a ring ++ take a ring)) q
        ∙ rw (drop-append-add (drop a ring) (take a ring) i, take-append-add (drop a ring) (take a ring) i))

-- ---- one byte, and a store that doesn't reach past the end: looked at from their own place they stand first

first-from : (place : ℕ) (ring : List ℕ) → place < length ring → get_or (from place ring) 0 0 ≡ get_or ring place 0
unfolding from
first-from place ring h =
    let hd : 0 < length (drop place ring) = rw length-drop (omega arith) in
    List·get_d-append (drop place ring) (take place ring) 0 0 hd ∙ get_or-drop place ring 0 0 ∙ ap (λ (k : ℕ). get_or ring k 0) (add-zero place)

put_first : (place : ℕ) (ring x : List ℕ) → place + length x ≤ length ring → from place (put ring place x) ≡ put (from place ring) 0 x
unfolding from
put_first place ring x fits =
    let hd : 0 + length x ≤ length (drop place ring) = rw length-drop (omega arith) in
    from_at (take place ring) (x ++ drop (place + length x) ring) place (length-take-le place ring (omega arith))
    ∙ ap (λ (l : List ℕ). (x ++ l) ++ take place ring) (sym (drop-drop (length x) place ring))
    ∙ ap (λ (k : ℕ). (x ++ drop k (drop place ring)) ++ take place ring) (sym (zero-add (length x)))
    ∙ sym (put-left (drop place ring) (take place ring) 0 x hd)

module _ (a j : ℕ) (ring : List ℕ) (ha : a ≤ length ring) where
  -- the j-th byte that is seen stands at one place of the ring
  pub byte-around : j < length ring → get_or ring (around (length ring) (a + j)) 0 ≡ get_or (from a ring) j 0
  byte-around h =
      sym (first-from _ ring (around-below (length ring) (a + j) (omega arith)))
      ∙ ap (λ (l : List ℕ). get_or l 0 0) (from-around a j ring ha (omega arith))
      ∙ first-from j (from a ring) (rw (length_from a ring ha) h)

  -- and what is stored over the bytes from the j-th on is stored at that place
  pub put-around : (x : List ℕ) → j + length x ≤ length ring → around (length ring) (a + j) + length x ≤ length ring
      → from a (put ring (around (length ring) (a + j)) x) ≡ put (from a ring) j x
  put-around x fits straight =
      let p = around (length ring) (a + j) in
      let e : length (put ring p x) ≡ length ring = length-put ring p x straight in
      let s : length (from a ring) ≡ length ring = length_from a ring ha in
      let t : length (from a (put ring p x)) ≡ length ring = length_from a (put ring p x) (rw e ha) ∙ e in
      let f : j + length x ≤ length (from a ring) = rw s fits in
      sym (back_from j (from a (put ring p x)) (omega arith))
      ∙ ap (back j)
      (sym (from-around a j (put ring p x) (rw e ha) (omega arith))
      ∙ ap (λ (n : ℕ). from (around n (a + j)) (put ring p x)) e
      ∙ put_first p ring x straight
      ∙ ap (λ (l : List ℕ). put l 0 x) (from-around a j ring ha (omega arith))
      ∙ sym (put_first j (from a ring) x f))
      ∙ back_from j (put (from a ring) j x) (omega (arith, length-put (from a ring) j x f))
