-- The two runs of a header, one behind the other, are its bytes. Assumes nothing.
use Rattle.octets.proofs.Proving.{List, [], ◌++◌, ◌∙◌, ◌≡◌, ap, append-nil, ℕ}
use Rattle.wire.proofs.Puts.{spelled-behind}
use Rattle.header.specs.Header.{Header, header_bytes}
use Rattle.header.specs.Runs.{moment_fields, moment_values, moments, standing_fields, standing_values, standing}

pub header-runs : (h : Header) → moments h ++ (standing h ++ []) ≡ header_bytes h
unfolding header_bytes moments standing
header-runs h =
    ap (λ (l : List ℕ). moments h ++ l) (append-nil (standing h))
    ∙ spelled-behind moment_fields standing_fields (moment_values h) (standing_values h)
