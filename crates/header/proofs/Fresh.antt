-- The header of a fresh table holds, over any number of records. Assumes nothing.
use Rattle.octets.proofs.Proving.{Bool, List, [], ◌*◌, ◌++◌, ◌+◌, ◌-◌, ◌<◌, ◌∙◌, ◌∷◌, ◌≡◌, ◌≤◌, ap, arith, dec_lt, drop, drop_at, drop-drop, le-ltb, leb, leb-true, length, length-append, length-replicate, length-take-le, lt-ltb, ltb, refl, suc, sym, take, true, zero, ℕ}
use lib.Pow.{pow_pos}
use Rattle.octets.specs.Choice.{pick}
use Rattle.octets.specs.Bytes.{part, zeros, joined, all_are}
use Rattle.octets.proofs.Laws.{take-zeros, drop-zeros}
use Rattle.octets.proofs.Below.{every-at, all-each}
use Rattle.header.specs.Limits.{most_firms, firm_size, fewest_firms, lowest_threshold, highest_threshold}
use Rattle.header.specs.Firms.{firm_at, firms_shaped, rest_blank}
use Rattle.header.specs.Settings.{Firm, Settings, codes_of, listed_firms, settings_good, fresh_header}
use Rattle.header.specs.Whole.{WholeHeader, WholeFirms, WholeSettings}
use Rattle.header.proofs.Listed.{firm-part, row-all}
use Rattle.header.proofs.Holds.{HeaderGood}

-- ---- the row of firms

codes-long : (firms : List Firm) (n : ℕ) → WholeFirms firms → n ≤ length firms → length (codes_of firms n) ≡ firm_size * n
unfolding joined
codes-long firms zero w h = refl
codes-long [] (suc n) w h = absurd (omega arith)
codes-long (f ∷ fs) (suc n) w h =
    omega (arith, length-append f.code (codes_of fs n), w.0, codes-long fs n w.1 (omega arith))

pub length-listed : (firms : List Firm) (n : ℕ) → length (listed_firms firms n) ≡ firm_size * most_firms
unfolding listed_firms
length-listed firms n =
    length-take-le (firm_size * most_firms) (codes_of firms n ++ zeros (firm_size * most_firms))
    (omega (arith, length-append (codes_of firms n) (zeros (firm_size * most_firms)), length-replicate {A = ℕ} (firm_size * most_firms) 0))

module _ (firms : List Firm) (n : ℕ) (eight : length firms ≡ most_firms) (w : WholeFirms firms) (within : n ≤ most_firms) where
  as_row : listed_firms firms n ≡ codes_of firms n ++ zeros (firm_size * most_firms - firm_size * n)
  as_row = sym (row-all firms n n eight (omega arith) (codes-long firms n w (omega arith)))

  unlisted : (k : ℕ) → n ≤ k → k < most_firms → firm_at (listed_firms firms n) k ≡ zeros firm_size
  unlisted k least h =
      let m : ℕ = firm_size * most_firms - firm_size * n in
      let d : ℕ = firm_size * k - firm_size * n in
      let there : firm_size * n + d ≡ firm_size * k = omega arith in
      firm-part (listed_firms firms n) k h
      ∙ ap (λ (l : List ℕ). part l (firm_size * k) firm_size) as_row
      ∙ ap (λ (a : ℕ). part (codes_of firms n ++ zeros m) a firm_size) (sym there)
      ∙ ap (take firm_size) (sym (drop-drop d (firm_size * n) (codes_of firms n ++ zeros m)) ∙ ap (drop d) (drop_at (codes_of firms n) (zeros m) (firm_size * n) (codes-long firms n w (omega arith))) ∙ drop-zeros d m (omega arith))
      ∙ take-zeros firm_size (m - d) (omega arith)

  rest-listed : rest_blank (listed_firms firms n) n ≡ true
  unfolding rest_blank all_are
  rest-listed =
      all-each (λ k. pick (ltb k n) true (all_are 0 (firm_at (listed_firms firms n) k))) most_firms λ k h. elim (dec_lt k n) [
        | yes l ↦ rw (lt-ltb k n l)
        | no g ↦ rw (le-ltb k n (omega arith)) (ap (all_are 0) (unlisted k (omega arith) h))
      ]

-- ---- the header

module _ (s : Settings) (w : WholeSettings s) (good : settings_good s ≡ true) where
  tests : List Bool
  tests =
      leb lowest_threshold s.threshold.0 ∷ leb s.threshold.0 highest_threshold ∷ leb fewest_firms s.count ∷ leb s.count most_firms
      ∷ firms_shaped (listed_firms s.firms s.count) s.count ∷ []

  most : s.count ≤ most_firms
  unfolding settings_good tests
  most = leb-true _ _ (every-at tests 3 good)

  pub fresh-whole : WholeHeader (fresh_header s)
  unfolding fresh_header
  fresh-whole =
      record {
        day = omega arith;
        count = omega (arith, most);
        blocked = omega arith;
        used = omega arith;
        last = omega arith;
        reference = omega arith;
        threshold = w.threshold;
        firms = length-listed s.firms s.count;
      }

  pub fresh-good : (n : ℕ) → HeaderGood (fresh_header s) n
  unfolding fresh_header settings_good tests
  fresh-good n =
      record {
        day = omega arith;
        fewest-firms = leb-true _ _ (every-at tests 2 good);
        most-firms = most;
        used = omega arith;
        last = omega arith;
        lowest-reference = omega arith;
        highest-reference = omega arith;
        lowest-threshold = leb-true _ _ (every-at tests 0 good);
        highest-threshold = leb-true _ _ (every-at tests 1 good);
        shaped = every-at tests 4 good;
        rest = rest-listed s.firms s.count w.places w.codes most;
        blocked = pow_pos s.count;
      }
