-- Every promise settles its result: two results that a public function's contract allows are equal. Assumes nothing.
use Rattle.std.proofs.Common.{ℕ, Fits, w8}
use Rattle.octets.proofs.Settles.{Settled, ◌and◌, ◌also◌, settled}
use Rattle.purge.proofs as purge

pub request-length-unique : Settled purge.request_length.Reads.Post
request-length-unique κs a = settled

pub mass-cancel-unique : Settled purge.mass_cancel.MassCancelBody.judged.Reads.Post and Settled purge.mass_cancel.MassCancelBody.parse.Reads.Post
mass-cancel-unique = (λ κs a. settled) also (λ κs a. settled)

pub judge-order-entry-unique : Settled purge.order_entry.judge_order_entry.Reads.Post
judge-order-entry-unique κs a = settled

-- of either letter
pub order-entry-unique : ((LETTER : ℕ) (fits : Fits w8 LETTER) → Settled (purge.order_entry.OrderEntryBody.judged.Reads.Post LETTER fits))
    and ((LETTER : ℕ) (fits : Fits w8 LETTER) → Settled (purge.order_entry.OrderEntryBody.parse.Reads.Post LETTER fits))
order-entry-unique = (λ LETTER fits κs a. settled) also (λ LETTER fits κs a. settled)
