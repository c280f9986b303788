-- The values that the laws speak of, under their names. Assumes nothing.
pub use Rattle.answers.specs.Answer.{Answer}
pub use Rattle.answers.specs.Answer.{BadField, Blocked, Done, Full, Ignored, Malformed, NotSound, NotLive, TooEarly, UnlistedFirm, WrongMoment, WrongRing, WrongStocks}
pub use Rattle.wire.specs.declared.shares.Total.{Total}
pub use Rattle.inbound.specs.declared.enter_order.EnterOrder.{EnterOrder}
pub use Rattle.inbound.specs.declared.replace_order.ReplaceOrder.{ReplaceOrder}
pub use Rattle.inbound.specs.declared.cancel_order.CancelOrder.{CancelOrder}
pub use Rattle.inbound.specs.declared.modify_order.ModifyOrder.{ModifyOrder}
pub use Rattle.tape.specs.declared.kinds.Kind.{Kind}
pub use Rattle.tape.specs.declared.kinds.Kind.TheVariants.{Enters, Replaces, Cancels, Modifies, Executes, BookCancels, SelfMatches, Prioritises, TurnsLate, EndsCross, TellsDay, SetsStock, Purges, Disables, Enables, Unknown}
pub use Rattle.tape.specs.declared.entry.Execution.{Execution}
pub use Rattle.tape.specs.declared.entry.BookCancel.{BookCancel}
pub use Rattle.tape.specs.declared.entry.SelfMatch.{SelfMatch}
pub use Rattle.tape.specs.declared.entry.Priority.{Priority}
pub use Rattle.tape.specs.declared.entry.System.{System}
pub use Rattle.tape.specs.declared.entry.StockState.{StockState}
pub use Rattle.tape.specs.declared.entry.Purge.{Purge}
pub use Rattle.tape.specs.declared.entry.Blocking.{Blocking}
pub use Rattle.stocks.specs.declared.standing.Standing.{Standing as StockStanding}
pub use Rattle.header.specs.declared.Header.{Header}
pub use Rattle.orders.specs.declared.order.Order.{Order}
pub use Rattle.rules.specs.Types.{Decision}
pub use Rattle.rules.specs.declared.plan.Begins.{Begins}
pub use Rattle.rules.specs.declared.plan.Begins.TheVariants.{Day, Block}
pub use Rattle.rules.specs.declared.plan.Plan.{Plan}
pub use Rattle.rules.specs.declared.plan.Notice.{Notice}
pub use Rattle.rules.specs.declared.plan.Notice.TheVariants.{Accepted, AiqCancelled, CancelPending, CancelReject, Canceled, Executed, Modified, PriorityUpdate, Rejected, Replaced, Silent, SystemEvent}
