-- Eleven halvings are enough for the places of a right list; one halves what is left. Assumes nothing.
use Rattle.octets.proofs.Proving.{◌+◌, ◌-◌, ◌/◌, ◌≡◌, arith, subst, ℕ}
use Rattle.stocks.specs.Stocks.{places_in}
use Rattle.stocks.proofs.Good.{few-places, good-ascending}
use Rattle.stocks.proofs.Halving.{Among, halved}
use Rattle.stocks.proofs.find.Listed.last_not_above.Goals as goal

pub loop-init : goal.loop-init
loop-init c =
    let few = few-places _ c.args.self.now.good in (
      omega (arith, c.places-size.ensures, c.requires),
      omega (arith, c.places-size.ensures),
      omega (arith, few, c.places-size.ensures),
      (λ h. absurd (omega arith)),
      λ j b h. absurd (omega (arith, c.places-size.ensures)),
    )

pub loop-preserved : goal.loop-preserved
loop-preserved c =
    let xs = c.args.self.now.bytes.now in
    let l = c.loop in
    let e : 11 - l.counter - 1 ≡ 11 - (l.counter + 1) = omega arith in
    subst (λ (m : ℕ). Among xs c.args.symbol (places_in xs) c.moved-base.result (l.size - l.size / 2) m) e
    (halved xs c.args.symbol (places_in xs) l.base l.size (11 - l.counter) (good-ascending xs c.args.self.now.are_bytes c.args.self.now.good) l.invariant (omega arith) c.moved-base.ensures)
