-- Each of the purge port's messages is faithful to its layout: a legal one's bytes are told whole by its struct, and the answers are given exactly
-- when the paper says. The law of the sixteen, cited for each. Assumes nothing.
use Prim.Native.Nat.{ℕ}
use Rattle.wire.specs.Layout.{unbroken, well_laid}
use Rattle.purge.proofs.Codec.{refl, Faithful, trips, mass_cancel, mass_cancel_made, mass_cancel_of, mass_cancel_values, mass_cancel_bytes, order_entry, order_entry_made, order_entry_of, order_entry_values, order_entry_bytes}

pub mass-cancel-faithful : Faithful mass_cancel mass_cancel_of mass_cancel_bytes mass_cancel_values
unfolding mass_cancel_of mass_cancel_bytes unbroken well_laid
mass-cancel-faithful = trips mass_cancel refl mass_cancel_made mass_cancel_values (λ m. refl) (λ v. refl)

-- a Disable, an Enable, or what else would have their fields
pub order-entry-faithful : (letter : ℕ) → Faithful (order_entry letter) order_entry_of (order_entry_bytes letter) order_entry_values
unfolding order_entry_of order_entry_bytes unbroken well_laid
order-entry-faithful letter = trips (order_entry letter) refl order_entry_made order_entry_values (λ m. refl) (λ v. refl)
