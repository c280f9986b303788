-- What the proofs of this crate cite, in one place. Assumes nothing.
pub use Rattle.wire.proofs.Codec.{refl, rules, unasked, ◌then◌, ends, spelled, written, Faithful, faithful}
unfoldable pub use Rattle.inbound.specs.Inbound.{enter_order_made, enter_order_of, enter_order_values, enter_order_bytes, replace_order_made, replace_order_of, replace_order_values, replace_order_bytes, cancel_order_made, cancel_order_of, cancel_order_values, cancel_order_bytes, modify_order_made, modify_order_of, modify_order_values, modify_order_bytes}
