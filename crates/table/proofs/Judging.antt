-- The bits, asked eight at once, one after the other, and at once behind the used records, are what the definition asks. Assumes nothing.
use Rattle.octets.proofs.Proving.{Bool, List, ◌&&◌, ◌*◌, ◌+◌, ◌-◌, ◌<◌, ◌^◌, ◌∙◌, ◌≡◌, ◌≤◌, ap, ap₂, arith, eqb, get_or, sym, ℕ}
use mathlib.Core.Bool.{beq}
use Rattle.octets.specs.Choice.{all_below}
use Rattle.octets.specs.Bits.{bit_of}
use Rattle.octets.proofs.Below.{all-next, all_same}
use Rattle.bitrow.specs.Row.{clear_from, packed}
use Rattle.bitrow.proofs.Halves.{all_split}
use Rattle.bitrow.proofs.Packed.{packed-is}
use Rattle.bitrow.proofs.Rows.{bit_byte}
use Rattle.bitrow.proofs.Clear.{split}
use Rattle.orders.specs.Order.{is_live}
use Rattle.table.specs.Table.{records_in, used_in, order_at, bit_bytes, is_marked, bits_good}
use Rattle.table.proofs.Stored.{covers}

pub bits-split : (t : List ℕ) → used_in t ≤ records_in t
    → bits_good t ≡ (all_below (used_in t) (λ i. beq (is_marked t i) (is_live (order_at t i))) && clear_from (bit_bytes t) (used_in t))
unfolding bits_good is_marked
bits-split t within = split (bit_bytes t) (used_in t) (λ i. is_live (order_at t i)) (covers t (used_in t) within)

-- record i has the bit that it should
abbrev pub agrees : List ℕ → ℕ → Bool
agrees t i = beq (is_marked t i) (is_live (order_at t i))

-- eight records more, by their byte
pub eight-more : (t : List ℕ) (at : ℕ) {ok : Bool} → get_or (bit_bytes t) at 0 < 2 ^ 8 → ok ≡ all_below (8 * at) (agrees t)
    → (ok && eqb (get_or (bit_bytes t) at 0) (packed 8 (λ j. is_live (order_at t (8 * at + j))))) ≡ all_below (8 * (at + 1)) (agrees t)
unfolding is_marked
eight-more t at small so_far =
    let next : 8 * at + 8 ≡ 8 * (at + 1) = omega arith in
    ap₂ ◌&&◌ so_far
    (packed-is (λ j. is_live (order_at t (8 * at + j))) 8 (get_or (bit_bytes t) at 0) small
    ∙ all_same (λ j. beq (bit_of (get_or (bit_bytes t) at 0) j) (is_live (order_at t (8 * at + j)))) (λ j. agrees t (8 * at + j)) 8
    (λ j l. ap (λ (b : Bool). beq b (is_live (order_at t (8 * at + j)))) (sym (bit_byte (bit_bytes t) at j l))))
    ∙ sym (all_split (agrees t) (8 * at) 8)
    ∙ ap (λ (m : ℕ). all_below m (agrees t)) next

-- one record more, behind some
pub one_more : (t : List ℕ) (from i : ℕ) {ok b : Bool} → from ≤ i → ok ≡ all_below (i - from) (λ j. agrees t (from + j)) → b ≡ agrees t i
    → (ok && b) ≡ all_below (i + 1 - from) (λ j. agrees t (from + j))
one_more t from i h so_far here =
    let place : from + (i - from) ≡ i = omega arith in
    let next : i - from + 1 ≡ i + 1 - from = omega arith in
    all-next (λ j. agrees t (from + j)) (i - from) so_far (here ∙ ap (agrees t) (sym place)) ∙ ap (λ (m : ℕ). all_below m (λ j. agrees t (from + j))) next
