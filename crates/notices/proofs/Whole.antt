-- A spelled message with its length is sent whole. Assumes nothing.
use Rattle.octets.proofs.Proving.{List, ◌∙◌, ◌≡◌, ap₂, length, sym, ℕ}
use Rattle.wire.specs.Messages.{in_eighty}
use Rattle.notices.specs.Types.{Sent}
use Rattle.notices.specs.Notices.{sent}

pub whole : (m : List ℕ) {bytes : List ℕ} {len n : ℕ} → (bytes ≡ in_eighty m) × (length m ≡ n) → len ≡ n → ◌≡◌ {A = Sent} (record { bytes = bytes; len = len }) (sent m)
unfolding sent
whole m spelled size = ap₂ (λ (b : List ℕ) (n : ℕ). record { bytes = b; len = n }) spelled.0 (size ∙ sym spelled.1)
