-- The firms of a header: eight places of four bytes, the first the default (Table and outbox, Header; What each entry does, O).
use Rattle.std.specs.Prelude.{ℕ, ◌*◌, min, Bool, true, List, ltb}
use Rattle.octets.specs.Choice.{pick, all_below, some_below, first_below}
use Rattle.octets.specs.Bytes.{part, same, all_are, zeros}
use Rattle.octets.specs.Bits.{bit_of, with_bit}
use Rattle.wire.specs.Letters.{space}
use Rattle.wire.specs.Text.{shaped}
use Rattle.header.specs.Limits.{most_firms, firm_size}
use Rattle.header.specs.Header.{Header}

-- the firm at place k; zeros past the eighth
unfoldable pub firm_at : List ℕ → ℕ → List ℕ
firm_at codes k = pick (ltb k most_firms) (part codes (firm_size * k) firm_size) (zeros firm_size)

unfoldable pub is_blank : List ℕ → Bool
is_blank firm = all_are space firm

-- blank means default
unfoldable pub meant_firm : Header → List ℕ → List ℕ
meant_firm h firm = pick (is_blank firm) (firm_at h.firms 0) firm

unfoldable pub is_listed : Header → List ℕ → Bool
is_listed h firm = some_below h.count (λ k. same (firm_at h.firms k) firm)

-- the firm's place: the first that holds it, so a firm listed twice has its first; the count, where no place holds it (Ask 5)
unfoldable pub firm_place : Header → List ℕ → ℕ
firm_place h firm = first_below h.count (λ k. same (firm_at h.firms k) firm)

-- the firm is blocked: the bit of its place is set, the lowest bit for the first place (Ask 5)
unfoldable pub firm_blocked : Header → List ℕ → Bool
firm_blocked h firm = bit_of h.blocked (firm_place h firm)

-- the bits of the blocked firms, that of a place set or not as said and every other as before; past the listed firms there are none (Ask 5)
unfoldable pub blocked_with : Header → ℕ → Bool → ℕ
blocked_with h place on = pick (ltb place (min h.count most_firms)) (with_bit h.blocked place on) h.blocked

-- each 1 to 4 capitals, then spaces
unfoldable pub firms_shaped : List ℕ → ℕ → Bool
firms_shaped codes n = all_below n (λ k. shaped (firm_at codes k))

-- places past the count are zero
unfoldable pub rest_blank : List ℕ → ℕ → Bool
rest_blank codes n = all_below most_firms (λ k. pick (ltb k n) true (all_are 0 (firm_at codes k)))
