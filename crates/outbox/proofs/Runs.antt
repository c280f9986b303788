-- Two unbroken runs, up to the ring's end and from its start, put a message behind the held bytes. Assumes nothing.
use Rattle.octets.proofs.Proving.{Bool, List, ◌+◌, ◌-◌, ◌<◌, ◌∙◌, ◌≡◌, ◌≤◌, ap, ap₂, arith, drop, drop_of_length-le, false, leb, leb-false, leb-true, length, length-drop, length-take-le, refl, sym, take, take_all, take-append-drop, true, ℕ}
use Rattle.octets.specs.Bytes.{put}
use Rattle.octets.proofs.Laws.{length-put, put-none}
use Rattle.outbox.specs.Outbox.{Marks, around, back, held, ring_with, marks_with}
use Rattle.outbox.specs.Runs.{in_two_runs}
use Rattle.outbox.proofs.Ring.{back_from, put-around, around-below, around-end}
use Rattle.outbox.proofs.With.{Fits, length-with, with-pieces}

-- a message that doesn't reach past the ring's end is one run
pub with-straight : (ring : List ℕ) (m : Marks) (message : List ℕ) → Fits ring m message → around (length ring) (m.at + m.held) + length message ≤ length ring
    → ring_with ring m message ≡ put ring (around (length ring) (m.at + m.held)) message
unfolding ring_with held
with-straight ring m message fits h =
    let p = around (length ring) (m.at + m.held) in
    sym (ap (back m.at) (put-around m.at m.held ring (omega arith) message (omega arith) h))
    ∙ back_from m.at (put ring p message) (omega (arith, length-put ring p message h))

-- where the first run takes all of the message, nothing is left for the second
pub one-run : (ring : List ℕ) (place : ℕ) (message : List ℕ) → length message ≤ length ring - place → put ring place message ≡ in_two_runs ring place message
unfolding in_two_runs
one-run ring place message h =
    let to_end = length ring - place in
    rw (take_all to_end message h, drop_of_length-le message {i = to_end} h) (sym (put-none (put ring place message) 0))

-- where it leaves a rest, the rest goes to the start
pub then-rest : (ring : List ℕ) (place : ℕ) (message first all : List ℕ) → first ≡ put ring place (take (length ring - place) message)
    → all ≡ put first 0 (take (length message - (length ring - place)) (drop (length ring - place) message)) → all ≡ in_two_runs ring place message
unfolding in_two_runs
then-rest ring place message first all e f =
    let to_end = length ring - place in
    f
    ∙ ap₂ (λ (l y : List ℕ). put l 0 y) e (take_all (length message - to_end) (drop to_end message) (omega (arith, length-drop to_end message)))

-- the first run ends where the ring ends, so the second begins where the ring begins
pub two_runs : (ring : List ℕ) (m : Marks) (message : List ℕ) → Fits ring m message → ring_with ring m message ≡ in_two_runs ring (around (length ring) (m.at + m.held)) message
unfolding in_two_runs marks_with
two_runs ring m message fits = go (leb (length message) to_end) refl
  where
    p : ℕ
    p = around (length ring) (m.at + m.held)

    below : p < length ring
    below = around-below (length ring) (m.at + m.held) (omega arith)

    to_end : ℕ
    to_end = length ring - p

    go : (b : Bool) → leb (length message) to_end ≡ b → ring_with ring m message ≡ put (put ring p (take to_end message)) 0 (drop to_end message)
    go true e =
        let h : length message ≤ to_end = leb-true _ _ e in
        with-straight ring m message fits (omega (arith, below)) ∙ one-run ring p message h
    go false e =
        let h : to_end < length message = leb-false _ _ e in
        let x = take to_end message in
        let y = drop to_end message in
        let lx : length x ≡ to_end = length-take-le to_end message (omega arith) in
        let ly : length y ≡ length message - to_end = length-drop to_end message in
        let fx : Fits ring m x = record { place = fits.place; room = omega arith } in
        let w = ring_with ring m x in
        let lw : length w ≡ length ring = length-with ring m x fx in
        let z : around (length w) (m.at + (m.held + length x)) ≡ 0 =
        ap₂ around lw (omega arith) ∙ around-end (length ring) (m.at + m.held) to_end (omega (arith, below)) (omega (arith, below)) in
        let fy : Fits w (marks_with m (length x)) y = record { place = rw lw fits.place; room = rw lw (omega arith) } in
        ap (ring_with ring m) (sym (take-append-drop to_end message))
        ∙ with-pieces ring m x y fx (omega arith)
        ∙ with-straight w (marks_with m (length x)) y fy (rw (z, lw) (omega arith))
        ∙ ap (λ (k : ℕ). put w k y) z
        ∙ ap (λ (l : List ℕ). put l 0 y) (with-straight ring m x fx (omega (arith, below)))
