-- Entries, spelled byte by byte and not through the layouts, so that a wrong offset there shows here.
use Rattle.std.specs.Prelude.{ℕ, List, [], ◌∷◌, ◌++◌, take}
use Prim.Native.String.{String}
use Rattle.octets.specs.Choice.{text}
use Rattle.octets.specs.Bytes.{digits, put}

-- half past nine
unfoldable pub stamp : List ℕ
stamp = digits 8 34_200_000_000_000

-- the letters, and spaces up to fourteen
unfoldable pub token : String → List ℕ
token name = take 14 (text name ++ text "              ")

unfoldable pub start : List ℕ
start = text "s" ++ stamp ++ text "S"

unfoldable pub finish : List ℕ
finish = text "s" ++ stamp ++ text "E"

-- token, shares, price, time in force, cross; a displayed order to buy ABC for a blank firm
unfoldable pub enter : String → ℕ → ℕ → ℕ → String → List ℕ
enter name shares price time cross =
    text "O" ++ stamp ++ token name ++ text "B" ++ digits 4 shares ++ text "ABC     " ++ digits 4 price ++ digits 4 time ++ text "    "
    ++ text "Y" ++ text "A" ++ text "N" ++ digits 4 0 ++ text cross

-- 500 shares at 1.0000
unfoldable pub good : String → List ℕ
good name = enter name 500 10_000 0 "N"

-- existing token, replacement token, shares, time in force, display, minimum; at 2.0000
unfoldable pub replace_as : String → String → ℕ → ℕ → String → ℕ → List ℕ
replace_as existing name shares time display minimum =
    text "U" ++ stamp ++ token existing ++ token name ++ digits 4 shares ++ digits 4 20_000 ++ digits 4 time ++ text display ++ text "N"
    ++ digits 4 minimum

unfoldable pub replace : String → String → ℕ → List ℕ
replace existing name shares = replace_as existing name shares 99_999 "Y" 0

-- token, intended size
unfoldable pub cancel : String → ℕ → List ℕ
cancel name size = text "X" ++ stamp ++ token name ++ digits 4 size

-- token, side, shares
unfoldable pub modify : String → String → ℕ → List ℕ
modify name side shares = text "M" ++ stamp ++ token name ++ text side ++ digits 4 shares

-- token, shares; at 1.0000, flag A, match number 7
unfoldable pub execute : String → ℕ → List ℕ
execute name shares = text "e" ++ stamp ++ token name ++ digits 4 shares ++ digits 4 10_000 ++ text "A" ++ digits 8 7

-- token, shares, which are all prevented; at 1.0000, flag A
unfoldable pub self_match : String → ℕ → List ℕ
self_match name shares = text "q" ++ stamp ++ token name ++ digits 4 shares ++ digits 4 shares ++ digits 4 10_000 ++ text "A"

-- token, shares, reason
unfoldable pub book_cancel : String → ℕ → String → List ℕ
book_cancel name shares reason = text "c" ++ stamp ++ token name ++ digits 4 shares ++ text reason

-- token, price
unfoldable pub prioritise : String → ℕ → List ℕ
prioritise name price = text "p" ++ stamp ++ token name ++ digits 4 price

unfoldable pub late : String → List ℕ
late name = text "l" ++ stamp ++ token name

unfoldable pub cross_done : String → List ℕ
cross_done name = text "f" ++ stamp ++ token name

-- symbol, state (Ask 2)
unfoldable pub halt : String → String → List ℕ
halt symbol state = text "h" ++ stamp ++ text symbol ++ text state

-- firm, symbol; eight spaces are all symbols (Ask 5)
unfoldable pub purge : String → String → List ℕ
purge firm symbol = text "w" ++ stamp ++ text firm ++ text symbol

abbrev pub all : String
all = "        "

unfoldable pub disable : String → List ℕ
disable firm = text "d" ++ stamp ++ text firm

unfoldable pub enable : String → List ℕ
enable firm = text "n" ++ stamp ++ text firm

-- ---- an entry with one field changed

unfoldable pub stamped_at : ℕ → List ℕ → List ℕ
stamped_at n e = put e 1 (digits 8 n)

-- of an Enter; firm and display stand in the same places of an Accepted
infixl 68 ◌on_side◌
unfoldable pub ◌on_side◌ : List ℕ → String → List ℕ
e on_side side = put e 23 (text side)

infixl 68 ◌in_stock◌
unfoldable pub ◌in_stock◌ : List ℕ → String → List ℕ
e in_stock stock = put e 28 (text stock)

infixl 68 ◌for_firm◌
unfoldable pub ◌for_firm◌ : List ℕ → String → List ℕ
e for_firm firm = put e 44 (text firm)

infixl 68 ◌displayed◌
unfoldable pub ◌displayed◌ : List ℕ → String → List ℕ
e displayed display = put e 48 (text display)

infixl 68 ◌in_capacity◌
unfoldable pub ◌in_capacity◌ : List ℕ → String → List ℕ
e in_capacity capacity = put e 49 (text capacity)

infixl 68 ◌swept◌
unfoldable pub ◌swept◌ : List ℕ → String → List ℕ
e swept sweep = put e 50 (text sweep)

infixl 68 ◌at_least◌
unfoldable pub ◌at_least◌ : List ℕ → ℕ → List ℕ
e at_least minimum = put e 51 (digits 4 minimum)

-- ---- what went before: each entry is done

infixl 60 ◌then◌
abbrev pub ◌then◌ : List (List ℕ) → List ℕ → List (List ℕ)
es then e = es ++ (e ∷ [])

unfoldable pub begun : List (List ℕ)
begun = start ∷ []

-- 500 entered, 100 executed
unfoldable pub entered : List (List ℕ)
entered = begun then enter "A" 500 10_000 99_999 "N" then execute "A" 100

-- and 50 self-matched
unfoldable pub self_matched : List (List ℕ)
self_matched = entered then self_match "A" 50

-- the same in the closing cross, and late
unfoldable pub entered_late : List (List ℕ)
entered_late = begun then enter "A" 500 10_000 99_999 "C" then execute "A" 100 then late "A"

-- and 50 self-matched
unfoldable pub self_matched_late : List (List ℕ)
self_matched_late = entered_late then self_match "A" 50

-- ABC is halted
unfoldable pub halted_then : List (List ℕ) → List (List ℕ)
halted_then es = es then halt "ABC     " "H"

-- ABCD is blocked (Ask 5)
unfoldable pub blocked_then : List (List ℕ) → List (List ℕ)
blocked_then es = es then disable "ABCD"

-- the day is over
unfoldable pub closing : List (List ℕ)
closing = entered then finish

-- all three records are used: A live, C live, D rejected
unfoldable pub full : List (List ℕ)
full = entered then enter "C" 1 10_000 0 "N" then enter "D" 0 10_000 0 "N"

-- an order to sell that isn't displayed
unfoldable pub sold : List (List ℕ)
sold = begun then (good "A" on_side "S" displayed "N")
