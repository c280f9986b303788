-- The values that the messages are made from, under their names.
pub use Rattle.wire.specs.declared.shares.Removed.{Removed}
pub use Rattle.tape.specs.declared.entry.Execution.{Execution}
pub use Rattle.tape.specs.declared.entry.SelfMatch.{SelfMatch}
pub use Rattle.orders.specs.declared.order.Order.{Order}
pub use Rattle.rules.specs.declared.plan.Plan.{Plan}
pub use Rattle.rules.specs.declared.plan.Notice.{Notice}
pub use Rattle.rules.specs.declared.plan.Notice.TheVariants.{Accepted, AiqCancelled, CancelPending, CancelReject, Canceled, Executed, Modified, PriorityUpdate, Rejected, Replaced, Silent, SystemEvent}
pub use Rattle.notices.specs.declared.Sent.{Sent}
