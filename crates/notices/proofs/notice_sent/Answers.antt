-- Each arm sends what the definition says of its notice. Assumes nothing.
use Rattle.notices.specs.Notices.{notice_bytes}
use Rattle.notices.proofs.notice_sent.Goals as goal

pub returns-in-Silent : goal.returns-in-Silent
unfolding notice_bytes
returns-in-Silent c = rw c.in-Silent.is c.silence.ensures

pub returns-in-SystemEvent : goal.returns-in-SystemEvent
unfolding notice_bytes
returns-in-SystemEvent c = rw c.in-SystemEvent.is c.sent_of.ensures

pub returns-in-Accepted : goal.returns-in-Accepted
unfolding notice_bytes
returns-in-Accepted c = rw (c.in-Accepted.is, ← c.accepted_notice.ensures) c.sent_of-in-Accepted.ensures

pub returns-in-Replaced : goal.returns-in-Replaced
unfolding notice_bytes
returns-in-Replaced c = rw (c.in-Replaced.is, ← c.replaced_notice.ensures) c.sent_of-in-Replaced.ensures

pub returns-in-Canceled : goal.returns-in-Canceled
unfolding notice_bytes
returns-in-Canceled c = rw (c.in-Canceled.is, ← c.canceled_notice.ensures) c.sent_of-in-Canceled.ensures

pub returns-in-AiqCancelled : goal.returns-in-AiqCancelled
unfolding notice_bytes
returns-in-AiqCancelled c = rw (c.in-AiqCancelled.is, ← c.self_match_notice.ensures) c.sent_of-in-AiqCancelled.ensures

pub returns-in-Executed : goal.returns-in-Executed
unfolding notice_bytes
returns-in-Executed c = rw (c.in-Executed.is, ← c.executed_notice.ensures) c.sent_of-in-Executed.ensures

pub returns-in-Rejected : goal.returns-in-Rejected
unfolding notice_bytes
returns-in-Rejected c = rw (c.in-Rejected.is, ← c.rejected_notice.ensures) c.sent_of-in-Rejected.ensures

pub returns-in-CancelPending : goal.returns-in-CancelPending
unfolding notice_bytes
returns-in-CancelPending c = rw c.in-CancelPending.is c.sent_of-in-CancelPending.ensures

pub returns-in-CancelReject : goal.returns-in-CancelReject
unfolding notice_bytes
returns-in-CancelReject c = rw c.in-CancelReject.is c.sent_of-in-CancelReject.ensures

pub returns-in-PriorityUpdate : goal.returns-in-PriorityUpdate
unfolding notice_bytes
returns-in-PriorityUpdate c = rw (c.in-PriorityUpdate.is, ← c.priority_notice.ensures) c.sent_of-in-PriorityUpdate.ensures

pub returns-in-Modified : goal.returns-in-Modified
unfolding notice_bytes
returns-in-Modified c = rw (c.in-Modified.is, ← c.modified_notice.ensures) c.sent_of-in-Modified.ensures
