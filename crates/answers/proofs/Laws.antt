-- Done is the one answer whose number is 0, and a bad field the one that tells a place. Assumes nothing.
use Rattle.std.specs.Prelude.{Ok, Err, eqb}
use Rattle.octets.proofs.Proving.{◌∙◌, ◌≡◌, ◌⊎◌, ap, arith, false, false≢true, inl, inr, refl, sym, true, ℕ}
use Rattle.answers.specs.Answer.{Answer, Refusal, Done, BadField, refusal_number, refusal_place, answer_number, answer_place, is_done}
use Rattle.answers.specs.declared.Refusal.TheVariants as refusal

pub is-done : (a : Answer) → is_done a ≡ true → a ≡ Done
unfolding is_done
is-done (Ok tt) h = refl
is-done (Err r) h = absurd (false≢true h)

pub not_done : (a : Answer) → is_done a ≡ false → a ≡ Done → ⊥
unfolding is_done
not_done a h e = false≢true (sym h ∙ ap is_done e)

-- another refusal than 3 has place 0; 3 has the place that it tells
refusal_by_place : (r : Refusal) → ((refusal_number r ≡ 3 → ⊥) × (refusal_place r ≡ 0)) ⊎ ((at : ℕ) × (Err r ≡ BadField at))
refusal_by_place refusal.NotSound = inl ((λ z. omega (arith, z)), refl)
refusal_by_place refusal.WrongRing = inl ((λ z. omega (arith, z)), refl)
refusal_by_place refusal.WrongStocks = inl ((λ z. omega (arith, z)), refl)
refusal_by_place refusal.Malformed = inl ((λ z. omega (arith, z)), refl)
refusal_by_place (refusal.BadField at) = inr (at, refl)
refusal_by_place refusal.TooEarly = inl ((λ z. omega (arith, z)), refl)
refusal_by_place refusal.UnlistedFirm = inl ((λ z. omega (arith, z)), refl)
refusal_by_place refusal.Ignored = inl ((λ z. omega (arith, z)), refl)
refusal_by_place refusal.NotLive = inl ((λ z. omega (arith, z)), refl)
refusal_by_place refusal.WrongMoment = inl ((λ z. omega (arith, z)), refl)
refusal_by_place refusal.WrongShares = inl ((λ z. omega (arith, z)), refl)
refusal_by_place refusal.Full = inl ((λ z. omega (arith, z)), refl)
refusal_by_place refusal.Blocked = inl ((λ z. omega (arith, z)), refl)
refusal_by_place refusal.NotHeld = inl ((λ z. omega (arith, z)), refl)
refusal_by_place refusal.NoRoom = inl ((λ z. omega (arith, z)), refl)

pub by_place : (a : Answer) → ((answer_number a ≡ 3 → ⊥) × (answer_place a ≡ 0)) ⊎ ((at : ℕ) × (a ≡ BadField at))
by_place (Ok done) = inl ((λ z. omega (arith, z)), refl)
by_place (Err r) = refusal_by_place r

-- no refusal has the number 0, so what is done is what the paper calls 0
refusal_above_0 : (r : Refusal) → eqb (refusal_number r) 0 ≡ false
refusal_above_0 refusal.NotSound = refl
refusal_above_0 refusal.WrongRing = refl
refusal_above_0 refusal.WrongStocks = refl
refusal_above_0 refusal.Malformed = refl
refusal_above_0 (refusal.BadField at) = refl
refusal_above_0 refusal.TooEarly = refl
refusal_above_0 refusal.UnlistedFirm = refl
refusal_above_0 refusal.Ignored = refl
refusal_above_0 refusal.NotLive = refl
refusal_above_0 refusal.WrongMoment = refl
refusal_above_0 refusal.WrongShares = refl
refusal_above_0 refusal.Full = refl
refusal_above_0 refusal.Blocked = refl
refusal_above_0 refusal.NotHeld = refl
refusal_above_0 refusal.NoRoom = refl

pub done-is-0 : (a : Answer) → is_done a ≡ eqb (answer_number a) 0
unfolding is_done
done-is-0 (Ok done) = refl
done-is-0 (Err r) = sym (refusal_above_0 r)
