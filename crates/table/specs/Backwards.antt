-- How two tokens are compared (Ask 3): from the last byte backwards, and no further than the first byte that differs. What find answers is said in
-- Table, by `same`, and stays so: from whichever end one begins it is the same test, which is proved.
use Rattle.std.specs.Prelude.{ℕ, zero, suc, Bool, true, false, not, List, eqb, get_or}
use Rattle.octets.specs.Choice.{first_of◌, ◌⇒◌⨾◌}

-- the first n bytes of both, the last of them first
unfoldable pub same_backwards : ℕ → List ℕ → List ℕ → Bool
same_backwards zero xs ys = true
same_backwards (suc n) xs ys =
    first_of
    not (eqb (get_or xs n 0) (get_or ys n 0)) ⇒ false
    ⨾ same_backwards n xs ys
