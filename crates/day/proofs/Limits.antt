-- Executions plus open of a record never rise, whatever entries follow. So a done Cancel limits executions for good. Assumes nothing.
use Rattle.octets.proofs.Proving.{List, [], ◌+◌, ◌<◌, ◌≡◌, ◌≤◌, ap, arith, subst, true, ℕ}
use Rattle.answers.specs.Answer.{is_done}
use Rattle.wire.specs.declared.shares.Total.{Total}
use Rattle.orders.specs.Counts.{gone, open_shares}
use Rattle.table.specs.Table.{header, order_at, sound}
use Rattle.tape.specs.Kinds.{kind_of}
use Rattle.tape.specs.declared.kinds.Kind.TheVariants.{Cancels}
use Rattle.tape.specs.Entries.{cancel_of}
use Rattle.rules.specs.Plan.{answer_of, plan_of}
use Rattle.host.specs.Step.{Books, World, books_after, comes_to, step}
use Rattle.laws.specs.Cancels.{executions_plus_open, its_place, LeavesLive}
use Rattle.laws.proofs.Records.{Face, open_in, left-used, each-record}
use Rattle.laws.proofs.Steps.{done-does, stays-sound}
use Rattle.laws.proofs.Canceled.{still-there, cuts-down}
use Rattle.day.specs.Day.{unlimited, books_with}
use Rattle.day.specs.Limit.{executed_later}
use Rattle.day.proofs.Plays.{plays}
use Rattle.day.proofs.Tokens.{left_is_lem}

-- record i is there, and its executions plus open are at most n
record Limited (i n : ℕ) (t : List ℕ) : Type 0 where
  there : i < (header t).used
  most : (executions_plus_open (order_at t i).shares).0 ≤ n

abbrev limit_in : Face → ℕ
limit_in f = f.executed + open_in f

-- one done entry
limited-on : (i n : ℕ) (b : Books) (s : List ℕ) → sound b.table ≡ true → is_done (answer_of (comes_to b s)) ≡ true → Limited i n b.table
    → Limited i n (books_with b s (plan_of (comes_to b s))).table
unfolding executions_plus_open open_shares gone books_after
limited-on i n b s ok done h =
    subst (Limited i n) (left_is_lem b s ok done)
    (record {
      there = omega (arith, h.there, left-used b s ok done);
      most =
          omega (arith, h.most, each-record b s ok done (λ x y. limit_in y ≤ limit_in x) (λ x. omega arith) (λ c. c.limit) i h.there);
    })

-- any entries
limited-play : (ss : List (List ℕ)) (i n : ℕ) (b : Books) → sound b.table ≡ true → Limited i n b.table → Limited i n (unlimited b ss).books.table
unfolding books_after
limited-play ss i n b ok h = plays (λ b' past. Limited i n b'.table) (λ b' s past good done l. limited-on i n b' s good done l) ss b [] ok h

-- after a done Cancel that leaves the order live, whatever entries follow: no more is executed of it than the intended size
pub limited-for-good : (w : World) (s : List ℕ) → kind_of s ≡ Cancels → LeavesLive w s → (ss : List (List ℕ)) → executed_later w s ss ≤ (cancel_of s).size.0
unfolding executions_plus_open executed_later is_done
limited-for-good w s cancels x ss =
    let does = done-does w s (ap is_done x.done) in
    let filled = ap (λ (n : Total). n.0) ((cuts-down w s cancels).limited x) in
    let end =
    limited-play ss (its_place w s) (cancel_of s).size.0 (step w s).world.books (stays-sound w s does.ready.table)
    (record { there = still-there w s cancels does; most = omega (arith, filled) }) in
    omega (arith, end.most)
