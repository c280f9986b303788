-- The values that these rules speak of, under their names.
pub use Rattle.answers.specs.Answer.{Answer}
pub use Rattle.answers.specs.Answer.{Done, NotLive, WrongMoment, WrongShares}
pub use Rattle.wire.specs.declared.shares.Removed.{Removed}
pub use Rattle.tape.specs.declared.entry.Execution.{Execution}
pub use Rattle.tape.specs.declared.entry.BookCancel.{BookCancel}
pub use Rattle.tape.specs.declared.entry.SelfMatch.{SelfMatch}
pub use Rattle.tape.specs.declared.entry.Priority.{Priority}
pub use Rattle.tape.specs.declared.entry.System.{System}
pub use Rattle.tape.specs.declared.entry.StockState.{StockState}
pub use Rattle.stocks.specs.declared.standing.Standing.{Standing}
pub use Rattle.header.specs.declared.Header.{Header}
pub use Rattle.orders.specs.declared.order.Order.{Order}
pub use Rattle.rules.specs.Types.{Decision}
pub use Rattle.rules.specs.declared.plan.Notice.{Notice}
pub use Rattle.rules.specs.declared.plan.Notice.TheVariants.{AiqCancelled, Canceled, Executed, PriorityUpdate, Silent}
