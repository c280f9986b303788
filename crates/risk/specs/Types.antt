-- The values that these rules speak of, under their names.
pub use Rattle.answers.specs.Answer.{UnlistedFirm}
pub use Rattle.tape.specs.declared.entry.Purge.{Purge}
pub use Rattle.tape.specs.declared.entry.Blocking.{Blocking}
pub use Rattle.header.specs.declared.Header.{Header}
pub use Rattle.orders.specs.declared.order.Order.{Order}
pub use Rattle.orders.specs.declared.wanted.Wanted.{Wanted}
pub use Rattle.rules.specs.Types.{Decision}
