-- The decisions that there are: a refusal, or a plan. A plan says all that a done entry changes beside the last stamp:
--     begins    the day that begins, or the place of a firm and whether it is blocked from now on (Ask 5); None if neither
--     changed   the order that the entry names, as it is afterwards; no_order if it stays as it is
--     added     what the first free record holds afterwards; no_order if it stays free
--     numbered  whether the order that is changed or added has taken the next reference
--     notice    what is told
--     stock     a listed stock and its state afterwards; None if every stock stays as it is (Ask 2)
use Rattle.std.specs.Prelude.{ℕ, Bool, true, false, List, Some, None, Ok, Err}
use Rattle.answers.specs.Answer.{is_done}
use Rattle.octets.specs.Choice.{first_of◌, ◌⇒◌⨾◌}
use Rattle.orders.specs.Order.{no_order, rejected_order}
use Rattle.rules.specs.Types.{Order, Answer, Plan, Day, Block, StockState, Decision, Notice, Silent, Rejected, Accepted, Replaced, SystemEvent, Done, Ignored}

-- nothing changes and nothing is told
abbrev pub empty_plan : Plan
empty_plan = record { begins = None; changed = no_order; added = no_order; numbered = false; notice = Silent; stock = None }

-- ---- a decision's answer, and its plan: the empty one where it is a refusal

abbrev pub answer_of : Decision → Answer
answer_of (Ok plan) = Done
answer_of (Err r) = Err r

abbrev pub plan_of : Decision → Plan
plan_of (Ok plan) = plan
plan_of (Err r) = empty_plan

-- ---- refusals

-- the decision that has this answer and changes nothing
unfoldable pub refused : Answer → Decision
refused (Ok done) = Ok empty_plan
refused (Err r) = Err r

-- the refusal of a client's entry
abbrev pub ignored : Decision
ignored = refused Ignored

-- the decision of an entry that passes the checks, or else the refusal that they come to
unfoldable pub allowed : Answer → Decision → Decision
allowed answer d =
    first_of
    is_done answer ⇒ d
    ⨾ refused answer

-- ---- the plans, each by what it has that the empty one has not

-- the named order changes, and this is told of it
unfoldable pub changing : Order → Notice → Decision
changing o notice = Ok (record empty_plan { changed = o; notice = notice })

-- the same, and it has the next reference
unfoldable pub renumbering : Order → Notice → Decision
renumbering o notice = Ok (record empty_plan { changed = o; numbered = true; notice = notice })

-- a new order, with the next reference
unfoldable pub accepting : Order → Decision
accepting new = Ok (record empty_plan { added = new; numbered = true; notice = Accepted })

-- the same, for the named order
unfoldable pub replacing : Order → Order → Decision
replacing old new = Ok (record empty_plan { changed = old; added = new; numbered = true; notice = Replaced })

-- a Rejected Message, and the token stored as R
unfoldable pub rejecting : List ℕ → ℕ → Decision
rejecting token reason = Ok (record empty_plan { added = rejected_order token; notice = Rejected reason })

-- System Event, sets day
unfoldable pub beginning : ℕ → ℕ → Decision
beginning day event = Ok (record empty_plan { begins = Some (Day day); notice = SystemEvent event })

-- a firm's bit, and nothing is sent (Ask 5)
unfoldable pub blocking : ℕ → Bool → Decision
blocking place on = Ok (record empty_plan { begins = Some (Block place on) })

-- a stock's state, and nothing is sent (Ask 2)
unfoldable pub setting : StockState → Decision
setting e = Ok (record empty_plan { stock = Some e })
