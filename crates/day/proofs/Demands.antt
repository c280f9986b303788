-- Demand 3, from the fresh call on: for every fresh table, every outbox that holds nothing, every right list of stocks, every list of entries and every schedule. Assumes
-- nothing.
use Rattle.octets.proofs.Proving.{List, [], ◌++◌, ◌∙◌, ◌≡◌, ◌≤◌, ap, false, length, true, ℕ}
use Rattle.octets.specs.Bytes.{joined}
use Rattle.answers.specs.Answer.{Done}
use Rattle.header.specs.Whole.{WholeSettings}
use Rattle.header.specs.declared.settings.Settings.{Settings}
use Rattle.orders.specs.Limits.{most_shares}
use Rattle.table.specs.Fresh.{fresh_answer, fresh_table}
use Rattle.table.proofs.Freshness.{fresh-sound, fresh-unused}
use Rattle.table.proofs.Soundness.{of-sound}
use Rattle.outbox.specs.Outbox.{ring_good, read_run}
use Rattle.outbox.specs.declared.marks.Marks.{Marks}
use Rattle.stocks.specs.Stocks.{list_good}
use Rattle.host.specs.Step.{Books, World, books, world, step}
use Rattle.laws.specs.Blocked.{is_blocked}
use Rattle.laws.specs.Ready.{Ready}
use Rattle.day.specs.Day.{Action, unlimited, run, patient}
use Rattle.day.specs.Demand.{bytes, Streams, Begins, messages_in, WholeMessages, NoHalts}
use Rattle.day.specs.Chain.{chain, executed_along}
use Rattle.day.proofs.Day.{kept, streams, reads_on}
use Rattle.day.proofs.Stream.{whole-messages}
use Rattle.day.proofs.Chains.{opened-ledger, ledger-kept, never-above}
use Rattle.day.proofs.Plays.{play-sound, play-quiet}
use Rattle.day.proofs.Progress.{never-blocked, patient-through}

module _ (t : List ℕ) (settings : Settings) (typed : WholeSettings settings) (taken : fresh_answer t settings ≡ Done)
    (ring : List ℕ) (m : Marks) (right : ring_good (length ring) m ≡ true) (empty : m.held ≡ 0) (stocks : List ℕ) (listed : list_good stocks ≡ true)
  where
    abbrev pub start : World
    start = world (fresh_table t settings) ring m stocks

    abbrev pub opening : Books
    opening = books (fresh_table t settings) stocks

    ready : Ready start
    ready = record { table = fresh-sound t settings typed taken; ring = right; stocks = listed }

    -- released bytes followed by held bytes are the messages that unlimited room would give; the other answers, the final table and the final
    -- list agree
    pub whole-day : (ss : List (List ℕ)) (todo : List Action) → (run start ss todo).left ≡ [] → Streams (unlimited opening ss) (run start ss todo)
    whole-day ss todo through = streams start ss todo ready empty through

    -- and those bytes, cut by the lengths that the types fix, are exactly the messages, each legal for its reader
    pub all_whole : (ss : List (List ℕ)) (todo : List Action) → (run start ss todo).left ≡ []
        → WholeMessages ((run start ss todo).released ++ bytes (run start ss todo).world) (unlimited opening ss).messages
    all_whole ss todo through = whole-messages start ss todo ready empty through

    -- no chain ever executes above 999,999 shares: along the chain that ends at any token, as the final table has it, by what the messages of
    -- the stream tell
    pub no-chain-above : (ss : List (List ℕ)) (todo : List Action) → (run start ss todo).left ≡ [] → (n : ℕ) (token : List ℕ)
        → executed_along (chain (run start ss todo).world.books.table n token) (messages_in ((run start ss todo).released ++ bytes (run start ss todo).world)) ≤ most_shares
    no-chain-above ss todo through n token =
        let good = ready.table in
        rw ((whole-day ss todo through).books, (all_whole ss todo through).cut)
        (never-above (unlimited opening ss).books.table (of-sound _ (play-sound ss opening good)) (unlimited opening ss).messages
        (ledger-kept ss opening [] good (opened-ledger (fresh_table t settings) (fresh-unused t settings typed taken))) n token)

    -- the list stays right, and nothing but h touches it
    pub list_right_lem : (ss : List (List ℕ)) (todo : List Action) → list_good (run start ss todo).world.books.stocks ≡ true
    list_right_lem ss todo = (kept todo start ss ready).ready.stocks

    pub list-untouched : (ss : List (List ℕ)) (todo : List Action) → (run start ss todo).left ≡ [] → NoHalts ss → (run start ss todo).world.books.stocks ≡ stocks
    list-untouched ss todo through none = ap (λ (b : Books). b.stocks) (whole-day ss todo through).books ∙ play-quiet ss none opening ready.table

    -- an entry offered to an empty outbox is never blocked: at every moment that any schedule reaches where nothing is held, whatever is offered
    pub never-blocked-all-day : (ss : List (List ℕ)) (todo : List Action) → (run start ss todo).world.marks.held ≡ 0
        → (s : List ℕ) → is_blocked (step (run start ss todo).world s).answer ≡ false
    never-blocked-all-day ss todo none s = never-blocked (run start ss todo).world s (kept todo start ss ready).ready none

    -- at every moment what was released, and then what a read shows, are the beginning of the stream of unlimited room
    pub reads-on-all-day : (ss : List (List ℕ)) (todo : List Action)
        → Begins ((run start ss todo).released ++ read_run (run start ss todo).world.ring (run start ss todo).world.marks)
        (joined (unlimited opening ss).messages)
    reads-on-all-day ss todo = reads_on start ss todo ready empty

    -- and some schedule gets through
    pub some-schedule : (ss : List (List ℕ)) → (run start ss (patient start ss)).left ≡ []
    some-schedule ss = patient-through ss start ready
