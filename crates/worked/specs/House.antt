-- Settings other than the paper's: a second and an eighth firm, and a threshold of 1,000 (Table and outbox, the fresh call; What each entry
-- does, O and U). Rows and columns as in the worked numbers.
use Prim.Native.String.{String}
use Rattle.std.specs.Prelude.{List, [], ◌∷◌}
use Rattle.host.specs.Step.{World}
use Rattle.worked.specs.Play.{settings, host}
use Rattle.worked.specs.Entries.{enter, replace, good, begun, entered, ◌for_firm◌}
use Rattle.worked.specs.Messages.{is_accepted, is_accepted_good, is_replaced, is_canceled, is_rejected}
use Rattle.worked.specs.Case.{Case, after◌offer◌answers◌sends◌leaves◌, played_on, live_order, dead_order, free, used_up}

unfoldable pub codes : List String
codes = "ABCD" ∷ "B   " ∷ "C   " ∷ "D   " ∷ "E   " ∷ "F   " ∷ "G   " ∷ "HIJ " ∷ []

-- eight firms are listed, or the first two of them
unfoldable pub eight_firms : World
eight_firms = host (settings 1_000_000 codes 8) 3 80

unfoldable pub two_firms : World
two_firms = host (settings 1_000_000 codes 2) 3 80

unfoldable pub low_threshold : World
low_threshold = host (settings 1_000 ("ABCD" ∷ []) 1) 3 80

unfoldable pub house : List Case
house =
    -- eight firms: blank means the first
    played_on eight_firms (after begun offer good "A" answers 0 sends is_accepted_good "A" leaves
    (live_order "A" 500 0 0 500 ∷ []))
    -- the second and the eighth: accepted for themselves
    ∷ played_on eight_firms (after begun offer good "A" for_firm "B   " answers 0 sends is_accepted_good "A" for_firm "B   " leaves
    (live_order "A" 500 0 0 500 ∷ []))
    ∷ played_on eight_firms (after begun offer good "A" for_firm "HIJ " answers 0 sends is_accepted_good "A" for_firm "HIJ " leaves
    (live_order "A" 500 0 0 500 ∷ []))
    -- a ninth: L
    ∷ played_on eight_firms (after begun offer good "A" for_firm "HIJK" answers 0 sends is_rejected "A" "L" leaves
    (used_up "A" ∷ []))
    -- two firms: the second is accepted; the eighth was given, but stands past the count: L
    ∷ played_on two_firms (after begun offer good "A" for_firm "B   " answers 0 sends is_accepted_good "A" for_firm "B   " leaves
    (live_order "A" 500 0 0 500 ∷ []))
    ∷ played_on two_firms (after begun offer good "A" for_firm "HIJ " answers 0 sends is_rejected "A" "L" leaves
    (used_up "A" ∷ []))
    -- threshold 1,000: shares 999 accepted, 1,000 gets Z
    ∷ played_on low_threshold (after begun offer enter "A" 999 10_000 0 "N" answers 0 sends is_accepted "A" 999 10_000 0 "N" leaves
    (live_order "A" 999 0 0 999 ∷ []))
    ∷ played_on low_threshold (after begun offer enter "A" 1_000 10_000 0 "N" answers 0 sends is_rejected "A" "Z" leaves
    (used_up "A" ∷ []))
    -- and after 500 entered, 100 executed: Replace 999 Replaced 899, Replace 1,000 Canceled 400
    ∷ played_on low_threshold (after entered offer replace "A" "B" 999 answers 0 sends is_replaced "A" "B" 899 leaves
    (dead_order "A" 100 100 0 0 ∷ live_order "B" 999 100 0 899 ∷ []))
    ∷ played_on low_threshold (after entered offer replace "A" "B" 1_000 answers 0 sends is_canceled "A" 400 leaves
    (dead_order "A" 100 100 0 0 ∷ free "B" ∷ []))
    ∷ []
