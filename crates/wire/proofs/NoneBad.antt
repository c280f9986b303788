-- When nothing of a field is bad, by its rule: tests that are computed, where the definition looks for the first bad place. Assumes nothing.
use Rattle.std.specs.Option.{option_or}
use Rattle.octets.proofs.Proving.{Bool, List, [], ◌&&◌, ◌+◌, ◌∙◌, ◌∷◌, ◌≡◌, ap, false, get_or, length, refl, sym, true, ℕ}
use Rattle.std.specs.Prelude.{Option, None, Some}
use Rattle.octets.specs.Choice.{pick, all_below}
use Rattle.octets.proofs.Below.{all_first}
use Rattle.wire.specs.Text.{token_byte}
use Rattle.wire.specs.Layout.{bad_token_byte, unless, is_none}

pub none-of-both : (a b : Option ℕ) → is_none (option_or a b) ≡ (is_none a && is_none b)
none-of-both None b = refl
none-of-both (Some at) b = refl

pub none-unless : (ok : Bool) (at : ℕ) → is_none (unless ok at) ≡ ok
none-unless true at = refl
none-unless false at = refl

none-picked : (ok : Bool) (a : Option ℕ) (at : ℕ) → is_none (pick ok a (Some at)) ≡ (ok && is_none a)
none-picked true a at = refl
none-picked false a at = refl

-- every byte is one that a token holds
abbrev pub legal_token : List ℕ → Bool
legal_token xs = all_below (length xs) (λ k. token_byte (get_or xs k 0))

pub token-bytes : (at : ℕ) (xs : List ℕ) → is_none (bad_token_byte at xs) ≡ legal_token xs
unfolding bad_token_byte all_below
token-bytes at [] = refl
token-bytes at (b ∷ bs) =
    none-picked (token_byte b) (bad_token_byte (1 + at) bs) at
    ∙ ap (λ (t : Bool). token_byte b && t) (token-bytes (1 + at) bs)
    ∙ sym (all_first (λ k. token_byte (get_or (b ∷ bs) k 0)) (length bs))
