-- The last digit of what is left comes in front of those that are there. Assumes nothing.
use Rattle.octets.proofs.Proving.{List, ◌++◌, ◌+◌, ◌-◌, ◌%◌, ◌/◌, ◌<◌, ◌∙◌, ◌≡◌, add-one, append-nil, append_assoc, arith, drop, drop_of_length-le, length, length-replicate, length-set, replicate, set, ℕ}
use Rattle.std.proofs.lemmas.List.{drop-set}
use Rattle.io.specs.Digits.{hex_digit_ascii, last_digits}
use Rattle.listing.proofs.clock.digits.Goals as goal

digit_on : (digits : List ℕ) (k j rest d : ℕ) → k < length digits → k + 1 ≡ j → d ≡ hex_digit_ascii (rest % 10)
    → last_digits 10 k (rest / 10) ++ drop k (set digits k d) ≡ last_digits 10 j rest ++ drop j digits
digit_on digits k j rest d h q e =
    rw (← q, drop-set digits k d h, e, add-one) (simp append_assoc)

pub loop-k-init : goal.loop-k-init
loop-k-init g c =
    let long : length (replicate g.row.N 48) ≡ g.row.N = length-replicate g.row.N 48 in
    (long, simp (drop_of_length-le {A = ℕ} (replicate g.row.N 48) {i = g.row.N} (omega (arith, long)), append-nil))

pub loop-k-preserved : goal.loop-k-preserved
loop-k-preserved g c =
    let l = c.loop-k in
    let k : l.k - 1 + 1 ≡ l.k = omega arith in
    let room : l.k - 1 < length l.digits = omega arith in
    (length-set _ _ _ ∙ l.invariant.0, digit_on l.digits (l.k - 1) l.k l.rest c.digit.result room k c.digit.ensures ∙ l.invariant.1)

pub returns : goal.returns
returns g c =
    let l = c.loop-k in
    let none : l.k ≡ 0 = omega arith in
    rw none at l.invariant.1
