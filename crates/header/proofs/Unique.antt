-- Every promise settles its result: two results that a public function's contract allows are equal. Assumes nothing.
use Rattle.octets.proofs.Settles.{Settled, SettledLent, ◌and◌, ◌also◌, settled, lent-first}
use Rattle.header.proofs as header

pub firms-unique : Settled header.firms.firm_at.Reads.Post and Settled header.firms.is_blank.Reads.Post
    and Settled header.firms.meant_firm.Reads.Post and Settled header.firms.is_listed.Reads.Post
    and Settled header.firms.firms_shaped.Reads.Post and Settled header.firms.firm_place.Reads.Post
    and Settled header.firms.firm_blocked.Reads.Post and Settled header.firms.blocked_with.Reads.Post
firms-unique = (λ κs a. settled) also (λ κs a. settled) also (λ κs a. settled) also (λ κs a. settled) also (λ κs a. settled)
    also (λ κs a. settled) also (λ κs a. settled) also (λ κs a. settled)

pub values-unique : Settled header.header_of.Reads.Post and SettledLent header.put_header.Reads.Post
    and Settled header.is_open_day.Reads.Post
values-unique = (λ κs a. settled) also (λ κs a. lent-first) also (λ κs a. settled)

pub settings-unique : Settled header.settings.settings_good.Reads.Post and Settled header.settings.fresh_header.Reads.Post
settings-unique = (λ κs a. settled) also (λ κs a. settled)

pub sound-unique : Settled header.sound.header_sound.Reads.Post
sound-unique κs a = settled
