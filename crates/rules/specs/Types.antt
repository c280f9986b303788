-- The values that the rules speak of, under their names.
use Rattle.std.specs.Prelude.{Result}
pub use Rattle.answers.specs.Answer.{Answer}
pub use Rattle.answers.specs.declared.Refusal.{Refusal}
pub use Rattle.answers.specs.Answer.{Done, Ignored}
pub use Rattle.wire.specs.declared.shares.Total.{Total}
pub use Rattle.wire.specs.declared.shares.Removed.{Removed}
pub use Rattle.wire.specs.declared.price.Price.{Price}
pub use Rattle.inbound.specs.declared.enter_order.EnterOrder.{EnterOrder}
pub use Rattle.inbound.specs.declared.replace_order.ReplaceOrder.{ReplaceOrder}
pub use Rattle.inbound.specs.declared.cancel_order.CancelOrder.{CancelOrder}
pub use Rattle.inbound.specs.declared.modify_order.ModifyOrder.{ModifyOrder}
pub use Rattle.tape.specs.declared.entry.Execution.{Execution}
pub use Rattle.tape.specs.declared.entry.SelfMatch.{SelfMatch}
pub use Rattle.tape.specs.declared.entry.StockState.{StockState}
pub use Rattle.stocks.specs.declared.standing.Standing.{Standing}
pub use Rattle.header.specs.declared.Header.{Header}
pub use Rattle.orders.specs.declared.counts.Counts.{Counts}
pub use Rattle.orders.specs.declared.order.Kept.{Kept}
pub use Rattle.orders.specs.declared.order.Terms.{Terms}
pub use Rattle.orders.specs.declared.order.Details.{Details}
pub use Rattle.orders.specs.declared.order.Order.{Order}
pub use Rattle.rules.specs.declared.plan.Notice.{Notice}
pub use Rattle.rules.specs.declared.plan.Notice.TheVariants.{Accepted, AiqCancelled, CancelPending, CancelReject, Canceled, Executed, Modified, PriorityUpdate, Rejected, Replaced, Silent, SystemEvent}
pub use Rattle.rules.specs.declared.plan.Begins.{Begins}
pub use Rattle.rules.specs.declared.plan.Begins.TheVariants.{Day, Block}
pub use Rattle.rules.specs.declared.plan.Plan.{Plan}

-- what a rule decides: a plan, or why the entry is refused
abbrev pub Decision : Type 0
Decision = Result Plan Refusal
