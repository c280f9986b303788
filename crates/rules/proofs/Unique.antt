-- Every promise settles its result: two results that a public function's contract allows are equal. Assumes nothing.
use Rattle.octets.proofs.Settles.{Settled, ◌and◌, ◌also◌, settled}
use Rattle.rules.proofs as rules

pub cancel-unique : Settled rules.cancel.cancel.Reads.Post
cancel-unique κs a = settled

pub enter-unique : Settled rules.enter.enter.Reads.Post
enter-unique κs a = settled

pub modify-unique : Settled rules.modify.modify.Reads.Post
modify-unique κs a = settled

pub plan-unique : Settled rules.plan.changing.Reads.Post and Settled rules.plan.renumbering.Reads.Post
    and Settled rules.plan.accepting.Reads.Post and Settled rules.plan.replacing.Reads.Post and Settled rules.plan.rejecting.Reads.Post
    and Settled rules.plan.beginning.Reads.Post and Settled rules.plan.blocking.Reads.Post and Settled rules.plan.setting.Reads.Post
plan-unique = (λ κs a. settled) also (λ κs a. settled) also (λ κs a. settled) also (λ κs a. settled) also (λ κs a. settled) also (λ κs a. settled)
    also (λ κs a. settled) also (λ κs a. settled)

pub replace-unique : Settled rules.replace.replace.Reads.Post and Settled rules.replace.canceled_whole.Reads.Post
replace-unique = (λ κs a. settled) also (λ κs a. settled)
