-- The laws of the two searches: a token means its first used record, whatever order the code compares in, and the first order such that a test
-- holds is such a one, with none before it, whether every record is looked at or those whose bits are set. Assumes nothing.
use Rattle.octets.proofs.Proving.{Bool, List, ◌&&◌, ◌<◌, ◌∙◌, ◌≡◌, ◌≤◌, ap, and-false, arith, false, false≢true, lt-ltb, refl, sym, true, ℕ}
use Rattle.octets.specs.Bytes.{same}
use Rattle.octets.proofs.Below.{same_true, same_self}
use Rattle.octets.proofs.First.{First, first-is, first-none}
use Rattle.orders.specs.Order.{is_live}
use Rattle.orders.specs.declared.order.Order.{Order}
use Rattle.table.specs.Table.{header, used_in, order_at, has_token, place_of, is_marked, first_such, first_marked, sound}
use Rattle.table.proofs.Eight.{first_alike}
use Rattle.table.proofs.Soundness.{Sound, of-sound}

-- record i is used and has the token, and none before it has
pub record FirstWith (t token : List ℕ) (i : ℕ) : Type 0 where
  pub used : i < used_in t
  pub has : (order_at t i).token ≡ token
  pub first : (j : ℕ) → j < i → (order_at t j).token ≡ token → ⊥

-- no used record has the token
abbrev pub NoneWith : List ℕ → List ℕ → Type 0
NoneWith t token = (j : ℕ) → j < used_in t → (order_at t j).token ≡ token → ⊥

module _ (t token : List ℕ) where
  own : (i : ℕ) → (order_at t i).token ≡ token → has_token t token i ≡ true
  unfolding has_token
  own i e = ap (λ (x : List ℕ). same x token) e ∙ same_self token

  pub found : place_of t token < used_in t → FirstWith t token (place_of t token)
  unfolding place_of has_token
  found h =
      let f = first-is (has_token t token) (used_in t) h in
      record { used = h; has = same_true _ _ f.holds; first = λ j l e. false≢true (sym (f.none_before j l) ∙ own j e) }

  pub not_found : used_in t ≤ place_of t token → NoneWith t token
  unfolding place_of
  not_found h j l e = false≢true (sym (first-none (has_token t token) (used_in t) h j l) ∙ own j e)

module _ (t : List ℕ) (test : Order → Bool) where
  pub such-found : first_such t test < used_in t → First (used_in t) (λ i. test (order_at t i)) (first_such t test)
  unfolding first_such
  such-found = first-is (λ i. test (order_at t i)) (used_in t)

  pub such-none : used_in t ≤ first_such t test → (j : ℕ) → j < used_in t → test (order_at t j) ≡ false
  unfolding first_such
  such-none = first-none (λ i. test (order_at t i)) (used_in t)

-- a test that holds of live orders alone: in a sound table the bits lead to the same record as looking at every one
pub by-the-bits : (t : List ℕ) → sound t ≡ true → (test : Order → Bool) → ((o : Order) → test o ≡ true → is_live o ≡ true) → first_marked t test ≡ first_such t test
unfolding first_marked first_such
by-the-bits t ok test alive = first_alike _ _ (used_in t) (λ j l. by j l (test (order_at t j)) refl)
  where
    s : Sound t
    s = of-sound t ok

    by : (j : ℕ) → j < used_in t → (b : Bool) → test (order_at t j) ≡ b → (is_marked t j && test (order_at t j)) ≡ test (order_at t j)
    by j l true e = rw (s.kept.bits j, lt-ltb j (header t).used (omega (arith, l, s.used)), alive (order_at t j) e)
    by j l false e = rw e (and-false (is_marked t j))
