-- What the proofs of readers and writers cite, in one place. Assumes nothing.
pub use mathlib.Core.Path.{refl}
pub use borrow.Author.Rules.{rules}
pub use Rattle.octets.proofs.Needs.{unasked}
pub use Rattle.wire.specs.Layout.{◌then◌, ends}
pub use Rattle.wire.specs.Faithful.{Faithful}
pub use Rattle.wire.proofs.Puts.{behind}
pub use Rattle.wire.proofs.Runs.{spelled, written}
pub use Rattle.wire.proofs.RoundTrips.{faithful, trips, kept-is, kept-long}
