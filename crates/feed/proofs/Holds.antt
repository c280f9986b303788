-- Laws of what is held: bytes in front stay in front, and a read only adds behind them. Assumes nothing.
use Rattle.octets.proofs.Proving.{Bool, List, [], ◌++◌, ◌+◌, ◌-◌, ◌<◌, ◌∙◌, ◌≡◌, ◌≤◌, ap, arith, drop, eqb, false, le-leb, leb, leb-false, leb-true, length, length-append, length-drop, length-take, length-take-le, min, refl, sub-zero, subst, sym, take, take_all, take-append_seam, take-take, true, ℕ}
use Rattle.octets.specs.Choice.{pick}
use Rattle.octets.specs.Bytes.{part}
use Rattle.feed.specs.Feed.{Feed, Held, Pieces, unread, Begins, Refills, behind, held_by, whole, handed_out, Next}

pub begins-on : (a b c : List ℕ) → Begins a b → Begins b c → Begins a c
begins-on a b c p q =
    let short : length a ≤ length b = omega (arith, sym (ap length p) ∙ length-take (length a) b) in
    sym (take-take (length a) (length b) c short) ∙ ap (take (length a)) q ∙ p

pub begins-self : (a : List ℕ) → Begins a a
begins-self a = take_all (length a) a (omega arith)

-- no more is held than there is
pub unread-within : (buffer : List ℕ) (h : Held) → length (unread buffer h) ≤ length buffer
unfolding unread
unread-within buffer h = by (leb h.end (length buffer)) refl (leb h.at h.end) refl
  where
    by : (b : Bool) → leb h.end (length buffer) ≡ b → (d : Bool) → leb h.at h.end ≡ d
        → length (pick b (pick d (part buffer h.at (h.end - h.at)) []) []) ≤ length buffer
    by true e true g = omega (arith, length-take (h.end - h.at) (drop h.at buffer), length-drop h.at buffer)
    by true e false g = omega arith
    by false e d g = omega arith

-- what was kept in front is held again, with what the read brought behind it
pub refills : (before kept after : List ℕ) (h g : Held) (n more : ℕ) → take n kept ≡ unread before h → n ≤ length kept
    → (unread after g ≡ take (n + more) after) × ((take n after ≡ take n kept) × (n + more ≤ length after))
    → Refills before h after g more
refills before kept after h g n more e k (u, (t, l)) =
    let long : length (unread before h) ≡ n = sym (ap length e) ∙ length-take-le n kept k in
    record {
      kept = rw (long, u) (take-take n (n + more) after (omega arith) ∙ t ∙ e);
      grown = rw (long, u) (length-take-le (n + more) after l);
      front = rw long u;
    }

-- the bytes behind the first n are exchanged by a read: the first n stay, and with what it brought they are held
pub filled : (buffer more rest : List ℕ) (n k : ℕ) → n ≤ length buffer → k ≤ length more
    → (let after = take n buffer ++ (more ++ rest) in
    (unread after (record { at = 0; end = n + k }) ≡ take (n + k) after) × ((take n after ≡ take n buffer) × (n + k ≤ length after)))
unfolding unread
filled buffer more rest n k h g =
    let front : length (take n buffer) ≡ n = length-take-le n buffer h in
    let long : n + k ≤ length (take n buffer ++ (more ++ rest)) = simp (length-append) (omega (arith, length-append more rest)) in
    let some : 0 ≤ n + k = omega arith in (
      simp (le-leb _ _ long, le-leb _ _ some, sub-zero),
      (ap (λ (m : ℕ). take m (take n buffer ++ (more ++ rest))) (sym front) ∙ take-append_seam (take n buffer) (more ++ rest), long),
    )

-- what was read behind the held bytes is held with them
pub read-in : (before kept space rest : List ℕ) (h : Held) (n more : ℕ) → take n kept ≡ unread before h → n ≤ length kept → more ≤ length space
    → Refills before h (take n kept ++ (space ++ rest)) (record { at = 0; end = n + more }) more
read-in before kept space rest h n more e k m =
    refills before kept (take n kept ++ (space ++ rest)) h (record { at = 0; end = n + more }) n more e k (filled kept space rest n more k m)

-- a read that brings something leaves less room
pub less-room : (before after : List ℕ) (h g : Held) (more room : ℕ) → Refills before h after g more → length (unread after g) ≤ room → (more ≡ 0 → ⊥)
    → room - length (unread after g) < room - length (unread before h)
less-room before after h g more room s fits some = omega (arith, s.grown, fits, some)

-- what is handed out leaves the marks as they are, and one piece fewer
pub next-piece : (p : Pieces) (f : Feed) (before after : List ℕ) (h : Held) (r : Feed) → Begins (behind before f) (unread after h)
    → r ≡ handed_out p (unread after h) h f.left → Next p f before after r
unfolding handed_out
next-piece p f before after h r k e =
    let same : held_by r ≡ h = ap held_by e in
    record {
      kept = subst (λ (m : Held). Begins (behind before f) (unread after m)) (sym same) k;
      cut = subst (λ (m : Held). r ≡ handed_out p (unread after m) m f.left) (sym same) e;
      falls = rw (ap (λ (g : Feed). g.left) e) (fewer (eqb (whole p (unread after h)) 0));
    }
  where
    fewer : (b : Bool) → pick b 0 (f.left - 1) ≤ f.left - 1
    fewer true = omega arith
    fewer false = omega arith

-- so many bytes, or all where there are fewer
pub take-least : (n : ℕ) (l : List ℕ) → take (min n (length l)) l ≡ take n l
take-least n l = by (leb n (length l)) refl
  where
    by : (b : Bool) → leb n (length l) ≡ b → take (min n (length l)) l ≡ take n l
    by true e =
        let small : min n (length l) ≡ n = omega (arith, leb-true n (length l) e) in
        ap (λ (k : ℕ). take k l) small
    by false e =
        let long : length l ≤ n = omega (arith, leb-false n (length l) e) in
        let all : min n (length l) ≡ length l = omega arith in
        ap (λ (k : ℕ). take k l) all ∙ take_all (length l) l (omega arith) ∙ sym (take_all n l long)
