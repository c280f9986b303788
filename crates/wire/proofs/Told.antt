-- The place that an answer tells: with 3 the smallest offset of a bad byte, and 0 with every other answer; once over all fields. Assumes nothing.
use Rattle.octets.proofs.Proving.{List, ◌<◌, ◌≡◌, ◌⊎◌, ap, arith, inl, inr, refl, subst, true, ℕ}
use Rattle.std.specs.Prelude.{Option, None, Some}
use Rattle.answers.specs.Answer.{answer_number, answer_place}
use Rattle.answers.specs.Answer.{Answer}
use Rattle.answers.specs.Answer.{BadField}
use Rattle.answers.proofs.Laws.{by_place}
use Rattle.wire.specs.Layout.{Field, first_bad_place, unbroken}
use Rattle.wire.specs.Legal.{FirstBad, ◌exactly_when◌, PlaceWith3}
use Rattle.wire.specs.Messages.{bad_at◌⨾◌}
use Rattle.wire.proofs.BadPlaces.{all-obey, first-bad, one-first, none_first}

module _ (fs : List Field) (size : ℕ) (u : unbroken 1 size fs ≡ true) (s : List ℕ) (next : Answer) (other : (at : ℕ) → next ≡ BadField at → ⊥) where
  pub told-exactly : (at : ℕ) → ((bad_at first_bad_place fs s ⨾ next) ≡ BadField at) exactly_when FirstBad fs s at
  told-exactly at = go (first_bad_place fs s) refl
    where
      go : (o : Option ℕ) → first_bad_place fs s ≡ o → ((bad_at o ⨾ next) ≡ BadField at) exactly_when FirstBad fs s at
      go None p = (λ e. absurd (other at e), λ b. absurd (none_first fs s (all-obey fs s p) b))
      go (Some i) p =
          let b : FirstBad fs s i = first-bad fs 1 size s i u p in
          (λ e. subst (FirstBad fs s) (ap answer_place e) b, λ b'. ap BadField (one-first fs s b b'))

-- an answer whose 3 never tells 0
pub place-with-3 : (a : Answer) → ((at : ℕ) → a ≡ BadField at → 0 < at) → PlaceWith3 a
place-with-3 a h = by (by_place a)
  where
    by : ((answer_number a ≡ 3 → ⊥) × (answer_place a ≡ 0)) ⊎ ((at : ℕ) × (a ≡ BadField at)) → PlaceWith3 a
    by (inl o) = (λ e. o.0, λ z. o.1)
    by (inr b) =
        let told = ap answer_place b.1 in
        (λ e z. omega (arith, e, told, h b.0 b.1), λ z. absurd (z (ap answer_number b.1)))
