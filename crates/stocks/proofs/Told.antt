-- What is told of a symbol, from its place. Assumes nothing.
use Rattle.octets.proofs.Proving.{Bool, List, [], ◌<◌, ◌∙◌, ◌∷◌, ◌≡◌, ◌≤◌, ap, ap₂, eq-eqb, eqb, false, le-ltb, lt-ltb, ltb, ne_eqb, not, refl, sym, true, ℕ}
use Rattle.octets.specs.Choice.{pick, ◌⇒◌⨾◌}
use Rattle.octets.specs.Bytes.{put}
use Rattle.wire.specs.Letters.{halted}
use Rattle.stocks.specs.Standing.{Trading, Halted, Unlisted}
use Rattle.stocks.specs.Stocks.{places_in, state_at, state_place, place_of, standing_in, with_state}

module _ (l symbol : List ℕ) (i : ℕ) (at : i ≡ place_of l symbol) where
  told : (there stopped : Bool) → ltb i (places_in l) ≡ there → eqb (state_at l i) halted ≡ stopped
      → standing_in l symbol ≡ (not there ⇒ Unlisted ⨾ stopped ⇒ Halted ⨾ Trading)
  unfolding standing_in
  told there stopped p q =
      ap₂ (λ (a b : Bool). not a ⇒ Unlisted ⨾ b ⇒ Halted ⨾ Trading)
      (ap (λ (k : ℕ). ltb k (places_in l)) (sym at) ∙ p) (ap (λ (k : ℕ). eqb (state_at l k) halted) (sym at) ∙ q)

  pub is-halted : i < places_in l → state_at l i ≡ halted → Halted ≡ standing_in l symbol
  is-halted h s = sym (told true true (lt-ltb _ _ h) (eq-eqb _ _ s))

  pub is-trading : i < places_in l → (state_at l i ≡ halted → ⊥) → Trading ≡ standing_in l symbol
  is-trading h s = sym (told true false (lt-ltb _ _ h) (ne_eqb _ _ s))

  pub is-unlisted : places_in l ≤ i → Unlisted ≡ standing_in l symbol
  is-unlisted h = sym (told false _ (le-ltb _ _ h) refl)

  pub set_there : (state : ℕ) → i < places_in l → put l (state_place i) (state ∷ []) ≡ with_state l symbol state
  unfolding with_state
  set_there state h =
      sym (ap₂ (λ (b : Bool) (k : ℕ). pick b (put l (state_place k) (state ∷ [])) l) (ap (λ (k : ℕ). ltb k (places_in l)) (sym at) ∙ lt-ltb _ _ h) (sym at))

  pub set-nowhere : (state : ℕ) → places_in l ≤ i → l ≡ with_state l symbol state
  unfolding with_state
  set-nowhere state h =
      sym (ap (λ (b : Bool). pick b (put l (state_place (place_of l symbol)) (state ∷ [])) l) (ap (λ (k : ℕ). ltb k (places_in l)) (sym at) ∙ le-ltb _ _ h))
