-- Each return is the guard that its tests led to. Assumes nothing.
use Rattle.octets.proofs.Proving.{Bool, ◌∙◌, ◌<◌, ◌≡◌, ◌≤◌, arith, false, le-ltb, leb, leb-false, leb-true, lt-ltb, ltb, refl, subst, sym, true, ℕ}
use Rattle.std.specs.Bool.{then_some}
use Rattle.std.specs.Prelude.{Option, Some, None, IfSome}
use Rattle.octets.specs.Choice.{pick}
use Rattle.outbox.specs.Limits.{longest_ring}
use Rattle.words.specs.Words.{with_digit}
use Rattle.words.proofs.numbers.with_digit.Goals as goal

small : (m : ℕ) → (then_some (leb m longest_ring) m ≡ pick (ltb longest_ring m) None (Some m)) × IfSome (then_some (leb m longest_ring) m) (λ k. k ≤ longest_ring)
small m = by (leb m longest_ring) refl
  where
    by : (b : Bool) → leb m longest_ring ≡ b → (then_some b m ≡ pick (ltb longest_ring m) None (Some m)) × IfSome (then_some b m) (λ k. k ≤ longest_ring)
    by true e = let h = leb-true m longest_ring e in (simp (le-ltb longest_ring m h), h)
    by false e = (simp (lt-ltb longest_ring m (leb-false m longest_ring e)), tt)

pub returns-in_default : goal.returns-in_default
unfolding with_digit
returns-in_default c =
    let low : c.args.digit < 48 = omega arith in
    (simp (lt-ltb c.args.digit 48 low), tt)

pub returns-in_default-2 : goal.returns-in_default-2
unfolding with_digit
returns-in_default-2 c =
    let low : 48 ≤ c.args.digit = omega arith in
    let high : 57 < c.args.digit = omega arith in
    (simp (le-ltb c.args.digit 48 low, lt-ltb 57 c.args.digit high), tt)

pub returns : goal.returns
unfolding with_digit
returns c =
    let low : 48 ≤ c.args.digit = omega arith in
    let high : c.args.digit ≤ 57 = omega arith in (
      c.then_some.ensures ∙ simp (le-ltb c.args.digit 48 low, le-ltb 57 c.args.digit high) (small _).0,
      subst (λ (o : Option ℕ). IfSome o (λ k. k ≤ longest_ring)) (sym c.then_some.ensures) (small _).1,
    )
