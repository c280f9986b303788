-- Everything that specs/ defines, open at once, for proofs by computation. Assumes nothing.
use Rattle.outbound.specs.Outbound.{stated_of, system_event_of, system_event_bytes, accepted_of, accepted_bytes, replaced_of, replaced_bytes, canceled_of, canceled_bytes, aiq_cancelled_of, aiq_cancelled_bytes, executed_of, executed_bytes, broken_trade_of, broken_trade_bytes, rejected_of, rejected_bytes, cancel_pending_of, cancel_pending_bytes, cancel_reject_of, cancel_reject_bytes, priority_update_of, priority_update_bytes, modified_of, modified_bytes}

unfoldable pub opened : Unit {0}
unfolding stated_of system_event_of system_event_bytes accepted_of accepted_bytes replaced_of replaced_bytes canceled_of canceled_bytes aiq_cancelled_of aiq_cancelled_bytes executed_of executed_bytes broken_trade_of broken_trade_bytes rejected_of rejected_bytes cancel_pending_of cancel_pending_bytes cancel_reject_of cancel_reject_bytes priority_update_of priority_update_bytes modified_of modified_bytes
opened = tt
