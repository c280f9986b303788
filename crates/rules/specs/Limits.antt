-- The numbers that only the rules know (What each entry does), each once.
use Rattle.std.specs.Prelude.{ℕ}

-- time in force above 99,999 becomes 99,999
abbrev pub longest_time : ℕ
longest_time = 99_999

-- minimum above 0 with time in force not 0
abbrev pub immediate : ℕ
immediate = 0
