-- The numbers of the paper that messages and entries are held to, each once.
use Rattle.std.specs.Prelude.{ℕ}

-- A stamp is below 86,400,000,000,000: the nanoseconds of a day
abbrev pub stamp_end : ℕ
stamp_end = 86_400_000_000_000

-- Token fields are fourteen bytes
abbrev pub token_size : ℕ
token_size = 14

-- none of the sixteen messages is longer than Replaced
abbrev pub longest_message : ℕ
longest_message = 80

-- price 1 to 1,999,999,900 ..
abbrev pub lowest_price : ℕ
lowest_price = 1

abbrev pub highest_price : ℕ
highest_price = 1_999_999_900

-- .. or 2,147,483,647 with cross O or C
abbrev pub market_price : ℕ
market_price = 2_147_483_647
