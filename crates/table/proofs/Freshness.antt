-- The fresh call: its answer case by case, and that the table that it leaves is sound and has no record used. Assumes nothing.
use Rattle.octets.proofs.Proving.{Bool, List, ◌*◌, ◌+◌, ◌-◌, ◌∙◌, ◌≡◌, ap, arith, false, length, length-replicate, not, refl, take, true, ℕ}
use Rattle.octets.specs.Choice.{first_of◌, ◌⇒◌⨾◌}
use Rattle.octets.specs.Bytes.{zeros, number_of, number_from}
use Rattle.octets.proofs.Laws.{take-zeros, drop-zeros}
use Rattle.answers.specs.Answer.{is_done, if_done}
use Rattle.answers.specs.Answer.{Done, NotSound, BadField}
use Rattle.header.specs.Limits.{header_size, sum_place}
use Rattle.header.specs.declared.Header.{Header}
use Rattle.header.specs.Settings.{settings_good, fresh_header}
use Rattle.header.specs.declared.settings.Settings.{Settings}
use Rattle.header.specs.Whole.{WholeHeader, WholeSettings}
use Rattle.header.proofs.Fresh.{fresh-whole, fresh-good}
use Rattle.orders.specs.Limits.{record_size}
use Rattle.table.specs.Table.{records_in, record_place, size_good, header, bit_bytes, open_sum, sound, store_header}
use Rattle.table.specs.Fresh.{fresh_answer, fresh_table}
use Rattle.table.proofs.Soundness.{Sized, of_size, same_size, head-fits}
use Rattle.table.proofs.Stored.{bits-there, header-read-back}
use Rattle.table.proofs.Agreeing.{none-agrees}
use Rattle.table.proofs.Keeps.{header-keeps}

module _ (t : List ℕ) (s : Settings) where
  pub done-means : fresh_answer t s ≡ Done → (size_good t ≡ true) × (settings_good s ≡ true)
  unfolding fresh_answer
  done-means e = go (size_good t) (settings_good s) e
    where
      go : (a b : Bool) → (first_of not a ⇒ NotSound ⨾ not b ⇒ BadField 0 ⨾ Done) ≡ Done → (a ≡ true) × (b ≡ true)
      go true true e = (refl, refl)
      go true false e = let z : ◌≡◌ {A = ℕ} 0 1 = cc in absurd (omega arith)
      go false b e = let z : ◌≡◌ {A = ℕ} 0 1 = cc in absurd (omega arith)

  module _ (w : WholeSettings s) (e : fresh_answer t s ≡ Done) where
    size : Sized t
    size = of_size t (done-means e).0

    whole : WholeHeader (fresh_header s)
    whole = fresh-whole s w (done-means e).1

    left : fresh_table t s ≡ store_header (zeros (length t)) (fresh_header s)
    unfolding fresh_table if_done is_done
    left = rw e

    blank : Sized (zeros (length t))
    blank = same_size t (zeros (length t)) (length-replicate (length t) 0) size

    no_bits : bit_bytes (zeros (length t)) ≡ zeros (length t - (header_size + record_size * records_in (zeros (length t))))
    unfolding bit_bytes record_place
    no_bits =
        drop-zeros _ (length t) (omega (arith, bits-there (zeros (length t)) (head-fits (zeros (length t)) blank), length-replicate {A = ℕ} (length t) 0))

    no-sum : open_sum (zeros (length t)) ≡ 0
    unfolding open_sum number_of number_from
    no-sum =
        let there = head-fits t size in
        ap (λ (l : List ℕ). number_of (take 4 l)) (drop-zeros sum_place (length t) (omega arith)) ∙ ap number_of (take-zeros 4 (length t - sum_place) (omega arith))

    pub fresh-sound : sound (fresh_table t s) ≡ true
    unfolding fresh_header
    fresh-sound =
        ap sound left
        ∙ header-keeps (fresh_header s) whole (zeros (length t)) blank (fresh-good s w (done-means e).1 (records_in (zeros (length t)))) (λ j l. absurd (omega arith))
        (none-agrees (zeros (length t)) (length t - (header_size + record_size * records_in (zeros (length t)))) no_bits no-sum)

    pub fresh-unused : (header (fresh_table t s)).used ≡ 0
    unfolding fresh_header
    fresh-unused =
        ap (λ (u : List ℕ). (header u).used) left
        ∙ ap (λ (h : Header). h.used) (header-read-back (zeros (length t)) (fresh_header s) (head-fits (zeros (length t)) blank) whole)
