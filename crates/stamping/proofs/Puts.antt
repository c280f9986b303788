-- Puts one behind the other from the front on are one put: the kind, the stamp and a body, and the symbol behind a firm. Assumes nothing.
use Rattle.octets.proofs.Proving.{List, ◌++◌, ◌+◌, ◌<◌, ◌∙◌, ◌∷◌, ◌≡◌, ◌≤◌, ap, append_assoc, arith, eqb, get_or, guard, length, length-append, sym, true, zero-add, ℕ}
use Rattle.octets.specs.Bytes.{part, put, digits}
use Rattle.octets.proofs.Laws.{digits-byte, length_digits, length_part, length-put, put-put}
use Rattle.answers.specs.Answer.{Done}
use Rattle.purge.specs.Purge.{mass_cancel}
use Rattle.stamping.specs.Stamping.{heard, body_for}
use Rattle.stamping.proofs.Which.{purge-long, mass-long, firm-and-symbol}

-- n bytes at the front, and what is put behind them
behind : (t ys zs : List ℕ) (n : ℕ) → length ys ≡ n → n + length zs ≤ length t → {a b : List ℕ} → a ≡ put t 0 ys → b ≡ put a n zs → b ≡ put t 0 (ys ++ zs)
behind t ys zs n long room e f =
    f ∙ ap (λ (l : List ℕ). put l n zs) e ∙ ap (λ (k : ℕ). put (put t 0 ys) k zs) (sym long ∙ sym (zero-add (length ys)))
    ∙ put-put t 0 ys zs (omega (arith, long, room))

pub front : (t : List ℕ) (kind stamp : ℕ) (body : List ℕ) → kind < 256 → 9 + length body ≤ length t → {a b c : List ℕ} → a ≡ put t 0 (digits 1 kind)
    → b ≡ put a 1 (digits 8 stamp) → c ≡ put b 9 body → c ≡ put t 0 (kind ∷ (digits 8 stamp ++ body))
unfolding digits
front t kind stamp body byte room e f g =
    behind t (digits 1 kind ++ digits 8 stamp) body 9 (omega arith) room (behind t (digits 1 kind) (digits 8 stamp) 1 (omega arith) (omega (arith, room)) e f) g
    ∙ ap (λ (b : List ℕ). put t 0 ((b ++ digits 8 stamp) ++ body)) (digits-byte kind byte)

pub front_long : (kind stamp : ℕ) (body : List ℕ) → length (kind ∷ (digits 8 stamp ++ body)) ≡ 9 + length body
front_long kind stamp body = omega (arith, length-append (digits 8 stamp) body, length_digits 8 stamp)

-- ---- of the purge port

pub firm-fits : (m : List ℕ) → heard true m ≡ Done → 4 ≤ length (body_for true m)
unfolding body_for
firm-fits m done =
    let firm = length_part m 5 4 (omega (arith, purge-long m done)) in
    guard (λ (xs : List ℕ). 4 ≤ length xs) (eqb (get_or m 0 0) mass_cancel.code)
    (λ e. omega (arith, firm, length-append (part m 5 4) (part m 15 8))) (λ e. omega (arith, firm))

-- a Mass Cancel, once its firm is put
module _ (t m : List ℕ) (kind stamp : ℕ) (done : heard true m ≡ Done) (typed : get_or m 0 0 ≡ mass_cancel.code) (room : 9 + length (body_for true m) ≤ length t)
    {a : List ℕ} (e : a ≡ put t 0 (kind ∷ (digits 8 stamp ++ part m 5 4))) where
  firm-long : length (part m 5 4) ≡ 4
  firm-long = length_part m 5 4 (omega (arith, mass-long m done typed))

  symbol-room : 13 + length (part m 15 8) ≤ length t
  symbol-room = omega (arith, room, ap length (firm-and-symbol m typed), length-append (part m 5 4) (part m 15 8), firm-long)

  pub symbol-fits : 13 + length (part m 15 8) ≤ length a
  symbol-fits =
      let long = front_long kind stamp (part m 5 4) in
      omega (arith, symbol-room, ap length e, length-put t 0 (kind ∷ (digits 8 stamp ++ part m 5 4)) (omega (arith, long, firm-long, symbol-room)))

  pub symbol-put : {b : List ℕ} → b ≡ put a 13 (part m 15 8) → b ≡ put t 0 (kind ∷ (digits 8 stamp ++ body_for true m))
  symbol-put f =
      behind t (kind ∷ (digits 8 stamp ++ part m 5 4)) (part m 15 8) 13 (omega (arith, front_long kind stamp (part m 5 4), firm-long)) symbol-room e f
      ∙ ap (λ (l : List ℕ). put t 0 (kind ∷ l)) (append_assoc (digits 8 stamp) (part m 5 4) (part m 15 8))
      ∙ ap (λ (l : List ℕ). put t 0 (kind ∷ (digits 8 stamp ++ l))) (sym (firm-and-symbol m typed))
