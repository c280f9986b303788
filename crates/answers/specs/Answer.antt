-- The answer numbers, in the order of checking (Answer numbers, in order of checking). An answer is that a call is done, or why it is refused.
use Rattle.std.specs.Prelude.{ℕ, Bool, true, false, Result, Ok, Err}
use Rattle.octets.specs.Choice.{pick}
pub use Rattle.answers.specs.declared.Refusal.{Refusal}
use Rattle.answers.specs.declared.Refusal.TheVariants as refusal

abbrev pub Answer : Type 0
Answer = Result (Unit {0}) Refusal

abbrev pub Done : Answer
Done = Ok tt

-- ---- the refusals as answers

abbrev pub NotSound : Answer
NotSound = Err refusal.NotSound

abbrev pub WrongRing : Answer
WrongRing = Err refusal.WrongRing

abbrev pub WrongStocks : Answer
WrongStocks = Err refusal.WrongStocks

abbrev pub Malformed : Answer
Malformed = Err refusal.Malformed

abbrev pub BadField : ℕ → Answer
BadField at = Err (refusal.BadField at)

abbrev pub TooEarly : Answer
TooEarly = Err refusal.TooEarly

abbrev pub UnlistedFirm : Answer
UnlistedFirm = Err refusal.UnlistedFirm

abbrev pub Ignored : Answer
Ignored = Err refusal.Ignored

abbrev pub NotLive : Answer
NotLive = Err refusal.NotLive

abbrev pub WrongMoment : Answer
WrongMoment = Err refusal.WrongMoment

abbrev pub WrongShares : Answer
WrongShares = Err refusal.WrongShares

abbrev pub Full : Answer
Full = Err refusal.Full

abbrev pub Blocked : Answer
Blocked = Err refusal.Blocked

abbrev pub NotHeld : Answer
NotHeld = Err refusal.NotHeld

abbrev pub NoRoom : Answer
NoRoom = Err refusal.NoRoom

-- ---- numbers and places

abbrev pub refusal_number : Refusal → ℕ
refusal_number refusal.NotSound = 10
refusal_number refusal.WrongRing = 11
refusal_number refusal.WrongStocks = 14  -- right after 11 (Ask 2)
refusal_number refusal.Malformed = 2
refusal_number (refusal.BadField at) = 3
refusal_number refusal.TooEarly = 4
refusal_number refusal.UnlistedFirm = 15  -- right after 4 (Ask 5)
refusal_number refusal.Ignored = 1
refusal_number refusal.NotLive = 5
refusal_number refusal.WrongMoment = 7
refusal_number refusal.WrongShares = 6
refusal_number refusal.Full = 8
refusal_number refusal.Blocked = 9
refusal_number refusal.NotHeld = 12
refusal_number refusal.NoRoom = 13

abbrev pub answer_number : Answer → ℕ
answer_number (Ok done) = 0
answer_number (Err r) = refusal_number r

-- Ask 1: an answer 3 tells the offset of the first bad byte; every other answer has place 0
abbrev pub refusal_place : Refusal → ℕ
refusal_place refusal.NotSound = 0
refusal_place refusal.WrongRing = 0
refusal_place refusal.WrongStocks = 0
refusal_place refusal.Malformed = 0
refusal_place (refusal.BadField at) = at
refusal_place refusal.TooEarly = 0
refusal_place refusal.UnlistedFirm = 0
refusal_place refusal.Ignored = 0
refusal_place refusal.NotLive = 0
refusal_place refusal.WrongMoment = 0
refusal_place refusal.WrongShares = 0
refusal_place refusal.Full = 0
refusal_place refusal.Blocked = 0
refusal_place refusal.NotHeld = 0
refusal_place refusal.NoRoom = 0

abbrev pub answer_place : Answer → ℕ
answer_place (Ok done) = 0
answer_place (Err r) = refusal_place r

-- ---- what an answer leaves

unfoldable pub is_done : Answer → Bool
is_done (Ok done) = true
is_done (Err r) = false

-- Only 0 changes anything: what is there after an answer, of what a done entry leaves and of what was there
unfoldable pub if_done : {A : Type 0} → Answer → A → A → A
if_done answer after before = pick (is_done answer) after before
