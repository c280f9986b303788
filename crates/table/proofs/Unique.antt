-- Every promise settles its result: two results that a public function's contract allows are equal. Assumes nothing.
use Rattle.octets.proofs.Proving.{List, ℕ}
use contract.Lifetimes.{Lfts}
use Rattle.octets.proofs.Settles.{Settles, Settled, SettledLent, SettledBoth, ◌and◌, ◌also◌, settled, lent, settled-both, one-result}
use Rattle.table.proofs as table

pub find-unique : Settled table.find.find.Reads.Post and Settled table.find.order_from.Reads.Post
find-unique = (λ κs a. settled) also (λ κs a. settled)

pub fresh-unique : SettledBoth table.fresh.fresh.Reads.Post
fresh-unique κs a = settled-both

pub places-unique : Settled table.places.records_in.Reads.Post and Settled table.places.header.Reads.Post
    and Settled table.places.used.Reads.Post and SettledLent table.places.store_header.Reads.Post
places-unique = (λ κs a. settled) also (λ κs a. settled) also (λ κs a. settled) also (λ κs a. lent)

-- of a part that is handed back, its bytes
pub record-unique : (κs : Lfts 1) (a : _) → Settles {X = List ℕ} (table.places.record_at.Reads.Post κs a) (λ z e. z.now)
record-unique κs a z z' e e' p p' = one-result p p'

pub search-unique : Settled table.search.find_wanted.Reads.Post
search-unique κs a = settled

pub sound-unique : Settled table.sound.table_size.Reads.Post and Settled table.sound.size_good.Reads.Post
    and Settled table.sound.sound.Reads.Post
sound-unique = (λ κs a. settled) also (λ κs a. settled) also (λ κs a. settled)

pub status-unique : Settled table.status.status.Reads.Post
status-unique κs a = settled

pub walk-unique : Settled table.walk.walk.Reads.Post
walk-unique κs a = settled

pub store-unique : SettledLent table.store.store_order.Reads.Post
store-unique κs a = lent
