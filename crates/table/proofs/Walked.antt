-- What the status call says of a sound table: how many used records are live, and the sum of what is open of them. Assumes nothing.
use Rattle.octets.proofs.Proving.{Bool, List, ◌*◌, ◌+◌, ◌-◌, ◌∙◌, ◌≡◌, ◌≤◌, ap, arith, drop, eq-eqb, le-ltb, length, length-take-le, lt-ltb, sym, take, take-append-drop, true, ℕ}
use Rattle.std.specs.Prelude.{Ok}
use Rattle.octets.specs.Choice.{count_below}
use Rattle.octets.specs.Bytes.{part, number_of, whole_at}
use Rattle.octets.proofs.Laws.{part-front}
use Rattle.octets.proofs.Counted.{count_same, count-zero}
use Rattle.bitrow.specs.Row.{ones_in}
use Rattle.bitrow.proofs.Halves.{count-split}
use Rattle.orders.specs.Order.{is_live}
use Rattle.header.specs.Limits.{sum_place, table_form}
use Rattle.table.specs.Table.{header, used_in, order_at, bit_bytes, is_marked, sound}
use Rattle.table.specs.Status.{form_good, status, walked}
use Rattle.table.proofs.Stored.{covers, head-there}
use Rattle.table.proofs.Soundness.{Sound, of-sound, to-size, head-fits}

module _ (t : List ℕ) (ok : sound t ≡ true) where
  S : Sound t
  S = of-sound t ok

  abbrev alive : ℕ → Bool
  alive i = is_live (order_at t i)

  in-form : form_good t ≡ true
  unfolding form_good
  in-form =
      let there = head-fits t S.size in
      let byte : whole_at t 2 1 ≡ table_form =
      ap number_of (ap (λ (l : List ℕ). part l 2 1) (sym (take-append-drop sum_place t)) ∙ part-front (take sum_place t) (drop sum_place t) 2 1 (omega (arith, length-take-le sum_place t (omega arith))))
      ∙ ap (λ (l : List ℕ). number_of (part l 2 1)) (sym (head-there t there)) ∙ S.form in
      rw (to-size t S.size, eq-eqb (whole_at t 2 1) table_form byte)

  -- the bits of the used records, and then no other
  ones-live : ones_in (bit_bytes t) ≡ count_below (used_in t) alive
  unfolding ones_in is_marked
  ones-live =
      let bits : ℕ = 8 * length (bit_bytes t) in
      let rest : used_in t + (bits - used_in t) ≡ bits = omega (arith, within) in
      ap (λ (m : ℕ). count_below m (is_marked t)) (sym rest)
      ∙ count-split (is_marked t) (used_in t) (bits - used_in t)
      ∙ omega (arith, first, behind)
    where
      within : used_in t ≤ 8 * length (bit_bytes t)
      within = covers t (used_in t) (omega (arith, S.used, S.head.used))

      first : count_below (used_in t) (is_marked t) ≡ count_below (used_in t) alive
      first = count_same (is_marked t) alive (used_in t) (λ k l. S.kept.bits k ∙ rw (lt-ltb k (header t).used (omega (arith, l, S.used))))

      behind : count_below (8 * length (bit_bytes t) - used_in t) (λ k. is_marked t (used_in t + k)) ≡ 0
      behind =
          count-zero (λ k. is_marked t (used_in t + k)) (8 * length (bit_bytes t) - used_in t)
          (λ k l. S.kept.bits (used_in t + k) ∙ rw (le-ltb (used_in t + k) (header t).used (omega (arith, S.used))))

  pub status-walked : status t ≡ Ok (walked t)
  unfolding status walked
  status-walked = rw (in-form, ones-live, S.kept.sum, S.used)
