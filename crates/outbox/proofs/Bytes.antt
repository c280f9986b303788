-- Every single byte of a ring after a put: the message's bytes stand at the message's places, and at no other place anything changed.
-- Assumes nothing.
use Rattle.octets.proofs.Proving.{List, ◌+◌, ◌-◌, ◌<◌, ◌∙◌, ◌≡◌, ◌≤◌, ◌⊎◌, ap, arith, dec_lt, get_or, get_or-drop, get_or-take, inl, inr, length, sym, ℕ}
use Rattle.octets.specs.Bytes.{put}
use Rattle.octets.proofs.Laws.{part-put-same}
use Rattle.outbox.specs.Outbox.{Marks, around, from, ring_with, message_place}
use Rattle.outbox.proofs.Lists.{byte-spared}
use Rattle.outbox.proofs.Ring.{byte-around, around-below, around-back}
use Rattle.outbox.proofs.With.{Fits, seen, from-with, length-with}

-- a number that is none of the size numbers from h on lies before or behind them
outside : (j h size : ℕ) → ((d : ℕ) → d < size → j ≡ h + d → ⊥) → (j < h) ⊎ (h + size ≤ j)
outside j h size away =
    elim (dec_lt j h) [
      | yes before ↦ inl before
      | no behind ↦ elim (dec_lt j (h + size)) [
        | yes inside ↦ absurd (away (j - h) (omega arith) (omega arith))
        | no past ↦ inr (omega arith)
      ]
    ]

module _ (ring : List ℕ) (m : Marks) (message : List ℕ) (fits : Fits ring m message) where
  -- the j-th byte from the read place on, after the put
  after : (j : ℕ) → j < length ring → get_or (ring_with ring m message) (around (length ring) (m.at + j)) 0 ≡ get_or (put (from m.at ring) m.held message) j 0
  after j h =
      let e : length (ring_with ring m message) ≡ length ring = length-with ring m message fits in
      ap (λ (n : ℕ). get_or (ring_with ring m message) (around n (m.at + j)) 0) (sym e)
      ∙ byte-around m.at j (ring_with ring m message) (omega arith) (omega arith)
      ∙ ap (λ (l : List ℕ). get_or l j 0) (from-with ring m message fits)

  pub byte-of-message : (j : ℕ) → j < length message → get_or (ring_with ring m message) (message_place (length ring) m j) 0 ≡ get_or message j 0
  byte-of-message j h =
      let l = put (from m.at ring) m.held message in
      after (m.held + j) (omega arith)
      ∙ sym (get_or-take (length message) _ j 0 h ∙ get_or-drop m.held l j 0)
      ∙ ap (λ (x : List ℕ). get_or x j 0) (part-put-same (from m.at ring) m.held message (omega (arith, seen ring m message fits)))

  pub byte-elsewhere : (i : ℕ) → i < length ring → ((j : ℕ) → j < length message → i ≡ message_place (length ring) m j → ⊥)
      → get_or (ring_with ring m message) i 0 ≡ get_or ring i 0
  byte-elsewhere i hi away =
      let n = length ring in
      let j = around n (i + (n - m.at)) in
      let hj : j < n = around-below n (i + (n - m.at)) (omega arith) in
      let e : around n (m.at + j) ≡ i = around-back n m.at i fits.place hi in
      ap (λ (k : ℕ). get_or (ring_with ring m message) k 0) (sym e)
      ∙ after j hj
      ∙ byte-spared (from m.at ring) m.held message j (omega (arith, seen ring m message fits))
      (outside j m.held (length message) (λ d hd q. away d hd (sym e ∙ ap (λ (k : ℕ). around n (m.at + k)) q)))
      ∙ sym (byte-around m.at j ring (omega arith) hj)
      ∙ ap (λ (k : ℕ). get_or ring k 0) e
