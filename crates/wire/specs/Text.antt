-- The shapes of text that the paper names: tokens (Messages and entries), stocks and firms (Table and outbox; What each entry does, O).
use Rattle.std.specs.Prelude.{ℕ, Bool, true, false, ◌&&◌, ◌||◌, List, [], ◌∷◌, leb, eqb}
use Prim.Native.Char.{code}
use Rattle.octets.specs.Choice.{pick}
use Rattle.octets.specs.Bytes.{all_are}
use Rattle.wire.specs.Letters.{space}

unfoldable pub capital : ℕ → Bool
capital b = leb (code "A") b && leb b (code "Z")

unfoldable pub small : ℕ → Bool
small b = leb (code "a") b && leb b (code "z")

unfoldable pub digit : ℕ → Bool
digit b = leb (code "0") b && leb b (code "9")

-- A token holds letters, digits and spaces only
unfoldable pub token_byte : ℕ → Bool
token_byte b = capital b || small b || digit b || eqb b space

-- capitals, then spaces; perhaps none of the one or of the other
unfoldable pub capitals_then_spaces : List ℕ → Bool
capitals_then_spaces [] = true
capitals_then_spaces (b ∷ bs) = pick (capital b) (capitals_then_spaces bs) (all_are space (b ∷ bs))

-- one capital at least, then spaces: a stock, a firm
unfoldable pub shaped : List ℕ → Bool
shaped [] = false
shaped (b ∷ bs) = capital b && capitals_then_spaces bs
