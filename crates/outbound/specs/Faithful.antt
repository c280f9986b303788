-- Each of the twelve messages that the host sends is faithful to its layout: reading and writing are each other's inverses, and the answers are
-- given exactly when the paper says. One law, cited for each. Assumes nothing.
use Rattle.wire.specs.Messages.{system_event, accepted, replaced, canceled, aiq_cancelled, executed, broken_trade, rejected, cancel_pending, cancel_reject, priority_update, modified}
use Rattle.wire.proofs.Codec.{refl, Faithful, faithful}
use Rattle.outbound.specs.Outbound.{system_event_made, system_event_of, system_event_values, system_event_bytes, accepted_made, accepted_of, accepted_values, accepted_bytes, replaced_made, replaced_of, replaced_values, replaced_bytes, canceled_made, canceled_of, canceled_values, canceled_bytes, aiq_cancelled_made, aiq_cancelled_of, aiq_cancelled_values, aiq_cancelled_bytes, executed_made, executed_of, executed_values, executed_bytes, broken_trade_made, broken_trade_of, broken_trade_values, broken_trade_bytes, rejected_made, rejected_of, rejected_values, rejected_bytes, cancel_pending_made, cancel_pending_of, cancel_pending_values, cancel_pending_bytes, cancel_reject_made, cancel_reject_of, cancel_reject_values, cancel_reject_bytes, priority_update_made, priority_update_of, priority_update_values, priority_update_bytes, modified_made, modified_of, modified_values, modified_bytes}

pub system-event-faithful : Faithful system_event system_event_of system_event_bytes system_event_values
unfolding system_event_of system_event_bytes
system-event-faithful = faithful 4 tt system_event_made system_event_values (λ m. refl) (λ v. refl)

pub accepted-faithful : Faithful accepted accepted_of accepted_bytes accepted_values
unfolding accepted_of accepted_bytes
accepted-faithful = faithful 5 tt accepted_made accepted_values (λ m. refl) (λ v. refl)

pub replaced-faithful : Faithful replaced replaced_of replaced_bytes replaced_values
unfolding replaced_of replaced_bytes
replaced-faithful = faithful 6 tt replaced_made replaced_values (λ m. refl) (λ v. refl)

pub canceled-faithful : Faithful canceled canceled_of canceled_bytes canceled_values
unfolding canceled_of canceled_bytes
canceled-faithful = faithful 7 tt canceled_made canceled_values (λ m. refl) (λ v. refl)

pub aiq-cancelled-faithful : Faithful aiq_cancelled aiq_cancelled_of aiq_cancelled_bytes aiq_cancelled_values
unfolding aiq_cancelled_of aiq_cancelled_bytes
aiq-cancelled-faithful = faithful 8 tt aiq_cancelled_made aiq_cancelled_values (λ m. refl) (λ v. refl)

pub executed-faithful : Faithful executed executed_of executed_bytes executed_values
unfolding executed_of executed_bytes
executed-faithful = faithful 9 tt executed_made executed_values (λ m. refl) (λ v. refl)

pub broken-trade-faithful : Faithful broken_trade broken_trade_of broken_trade_bytes broken_trade_values
unfolding broken_trade_of broken_trade_bytes
broken-trade-faithful = faithful 10 tt broken_trade_made broken_trade_values (λ m. refl) (λ v. refl)

pub rejected-faithful : Faithful rejected rejected_of rejected_bytes rejected_values
unfolding rejected_of rejected_bytes
rejected-faithful = faithful 11 tt rejected_made rejected_values (λ m. refl) (λ v. refl)

pub cancel-pending-faithful : Faithful cancel_pending cancel_pending_of cancel_pending_bytes cancel_pending_values
unfolding cancel_pending_of cancel_pending_bytes
cancel-pending-faithful = faithful 12 tt cancel_pending_made cancel_pending_values (λ m. refl) (λ v. refl)

pub cancel-reject-faithful : Faithful cancel_reject cancel_reject_of cancel_reject_bytes cancel_reject_values
unfolding cancel_reject_of cancel_reject_bytes
cancel-reject-faithful = faithful 13 tt cancel_reject_made cancel_reject_values (λ m. refl) (λ v. refl)

pub priority-update-faithful : Faithful priority_update priority_update_of priority_update_bytes priority_update_values
unfolding priority_update_of priority_update_bytes
priority-update-faithful = faithful 14 tt priority_update_made priority_update_values (λ m. refl) (λ v. refl)

pub modified-faithful : Faithful modified modified_of modified_bytes modified_values
unfolding modified_of modified_bytes
modified-faithful = faithful 15 tt modified_made modified_values (λ m. refl) (λ v. refl)
