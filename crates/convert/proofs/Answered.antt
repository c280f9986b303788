-- The converter's answer: what it means that it is done, and what the buffer holds then and with any other answer. Assumes nothing.
use Rattle.octets.proofs.Proving.{Bool, List, ◌+◌, ◌≡◌, ◌≢◌, ◌≤◌, arith, eqb, eqb-true, false, length, not, refl, true, ℕ}
use Rattle.octets.specs.Choice.{pick, first_of◌, ◌⇒◌⨾◌}
use Rattle.bitrow.specs.Row.{bytes_for}
use Rattle.answers.specs.Answer.{is_done, if_done}
use Rattle.answers.specs.Answer.{Done, NotSound, NoRoom}
use Rattle.answers.proofs.Laws.{is-done}
use Rattle.header.specs.Limits.{header_size}
use Rattle.table.specs.Table.{table_size}
use Rattle.convert.specs.Old.{old_records, old_used, old_sound}
use Rattle.convert.specs.Convert.{convert_answer, carried, with_orders, converted}
use Rattle.convert.proofs.Former.{OldSound, of-old-sound}

module _ (old : List ℕ) (m : ℕ) where
  told : convert_answer old m ≡ Done → (old_sound old ≡ true) × (m ≡ table_size (old_records old))
  unfolding convert_answer
  told e = go (old_sound old) (eqb m (table_size (old_records old))) refl refl e
    where
      go : (a b : Bool) → old_sound old ≡ a → eqb m (table_size (old_records old)) ≡ b → (first_of not a ⇒ NotSound ⨾ not b ⇒ NoRoom ⨾ Done) ≡ Done
          → (old_sound old ≡ true) × (m ≡ table_size (old_records old))
      go true true p q e = (p, eqb-true _ _ q)
      go true false p q e = let z : ◌≡◌ {A = ℕ} 0 1 = cc in absurd (omega arith)
      go false b p q e = let z : ◌≡◌ {A = ℕ} 0 1 = cc in absurd (omega arith)

  module _ (e : convert_answer old m ≡ Done) where
    pub was-sound : OldSound old
    was-sound = of-old-sound old (told e).0

    -- there is room for what is carried, and for nothing else
    pub room : (header_size ≤ length old) × (m ≡ length old + bytes_for (old_records old))
    unfolding table_size
    room = let size = was-sound.size in (omega (arith, size.long), omega (arith, (told e).1, size.long))

module _ (old t : List ℕ) where
  pub left-done : convert_answer old (length t) ≡ Done → converted old t ≡ with_orders old (old_used old) (carried old)
  unfolding converted if_done is_done
  left-done e = rw e

  pub left-else : convert_answer old (length t) ≢ Done → converted old t ≡ t
  unfolding converted if_done
  left-else other = by (is_done (convert_answer old (length t))) refl
    where
      by : (b : Bool) → is_done (convert_answer old (length t)) ≡ b → pick b (with_orders old (old_used old) (carried old)) t ≡ t
      by true e = absurd (other (is-done _ e))
      by false e = refl
