-- The values that a step speaks of, under their names.
pub use Rattle.answers.specs.Answer.{Answer}
pub use Rattle.answers.specs.declared.Refusal.{Refusal}
pub use Rattle.answers.specs.Answer.{BadField, Blocked, Done, Full, Ignored, Malformed, NoRoom, NotHeld, NotLive, NotSound, TooEarly, UnlistedFirm, WrongMoment, WrongRing, WrongShares, WrongStocks}
pub use Rattle.outbox.specs.declared.marks.Marks.{Marks}
pub use Rattle.header.specs.declared.Header.{Header}
pub use Rattle.orders.specs.declared.order.Order.{Order}
pub use Rattle.tape.specs.declared.entry.StockState.{StockState}
pub use Rattle.rules.specs.Types.{Decision}
pub use Rattle.rules.specs.declared.plan.Begins.{Begins}
pub use Rattle.rules.specs.declared.plan.Begins.TheVariants.{Day, Block}
pub use Rattle.rules.specs.declared.plan.Plan.{Plan}
