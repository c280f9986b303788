-- The number that eight bytes spell, the highest first, as the language reads it. Assumes nothing.
use Rattle.octets.proofs.Proving.{List, [], ◌∷◌, ◌≡◌, arith, length, rules, ◌∙◌, ℕ}
use Rattle.std.specs.Int.{w64, from_be_bytes}
use Rattle.octets.specs.Bytes.{number_of, number_from}
use Rattle.stocks.proofs.places.rank.Goals as goal

spelt : (xs : List ℕ) → length xs ≡ 8 → from_be_bytes w64 xs ≡ number_of xs
unfolding number_of number_from
spelt (a ∷ b ∷ c ∷ d ∷ e ∷ f ∷ g ∷ h ∷ []) long = omega arith
spelt _ long = absurd (omega arith)

pub returns : goal.returns
returns c = (search rules ∙ spelt c.args.symbol (search rules), λ k. search rules)
