-- What the proofs of this crate cite, in one place. Assumes nothing.
pub use Rattle.wire.proofs.Codec.{refl, rules, unasked, ◌then◌, ends, spelled, behind, written, Faithful, faithful}
unfoldable pub use Rattle.outbound.specs.Outbound.{stated_of, system_event_made, system_event_of, system_event_values, system_event_bytes, accepted_made, accepted_of, accepted_values, accepted_bytes, replaced_made, replaced_of, replaced_values, replaced_bytes, canceled_made, canceled_of, canceled_values, canceled_bytes, aiq_cancelled_made, aiq_cancelled_of, aiq_cancelled_values, aiq_cancelled_bytes, executed_made, executed_of, executed_values, executed_bytes, broken_trade_made, broken_trade_of, broken_trade_values, broken_trade_bytes, rejected_made, rejected_of, rejected_values, rejected_bytes, cancel_pending_made, cancel_pending_of, cancel_pending_values, cancel_pending_bytes, cancel_reject_made, cancel_reject_of, cancel_reject_values, cancel_reject_bytes, priority_update_made, priority_update_of, priority_update_values, priority_update_bytes, modified_made, modified_of, modified_values, modified_bytes}
