-- What the proofs of this crate cite, in one place. Assumes nothing.
pub use Rattle.wire.proofs.Codec.{refl, rules, unasked, Faithful, trips}
unfoldable pub use Rattle.purge.specs.Purge.{mass_cancel, mass_cancel_made, mass_cancel_of, mass_cancel_values, mass_cancel_bytes, order_entry, order_entry_made, order_entry_of, order_entry_values, order_entry_bytes}
