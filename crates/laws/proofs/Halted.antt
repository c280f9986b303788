-- What a step does to the list of stocks: what a plan sets is set, and only h's plan sets anything. Assumes nothing.
use Rattle.octets.proofs.Proving.{Bool, List, [], ◌∙◌, ◌≡◌, ◌≢◌, ◌⊎◌, ap, false, false≢true, get_or, inl, inr, not, refl, sym, true, ℕ}
use Rattle.octets.specs.Choice.{◌⇒◌⨾◌}
use Rattle.answers.specs.Answer.{is_done}
use Rattle.answers.proofs.Laws.{is-done}
use Rattle.stocks.specs.Standing.{is_listed}
use Rattle.stocks.specs.Stocks.{list_good, standing_in, with_state}
use Rattle.stocks.proofs.Keeps.{set_keeps}
use Rattle.table.specs.Table.{sound}
use Rattle.table.proofs.Soundness.{of-sound}
use Rattle.tape.specs.Kinds.{kind_of}
use Rattle.tape.specs.Entries.{stamp_of, stock_state_of}
use Rattle.rules.specs.Plan.{answer_of, plan_of, refused, setting}
use Rattle.market.specs.Halt.{halt_rule}
use Rattle.notices.specs.Notices.{message, notice_bytes}
use Rattle.host.specs.Step.{Books, World, decide_by, comes_to, set_if, books_after, world_after, step}
use Rattle.laws.specs.Halts.{Halts, KeepsStocks}
use Rattle.laws.proofs.Types.{NotLive, Decision, SetsStock, StockState, StockStanding}
use Rattle.laws.proofs.Comes.{passed, is_halt, state-legal, decided-by, decide-quiet}
use Rattle.laws.proofs.Steps.{Does, done-does, either, comes}

-- ---- a done h

module _ (books : Books) (s : List ℕ) (ok : sound books.table ≡ true) (done : is_done (answer_of (comes_to books s)) ≡ true) where
  abbrev l : List ℕ
  l = books.stocks

  abbrev e : StockState
  e = stock_state_of s

  -- another kind sets nothing
  pub quiet : kind_of s ≢ SetsStock → set_if l (plan_of (comes_to books s)).stock ≡ l
  unfolding set_if
  quiet other =
      let passed = passed books s done in
      ap (set_if l) (ap (λ (d : Decision). (plan_of d).stock) passed.is ∙ decide-quiet books s (of-sound books.table ok) passed.legal other)

  -- what is done is the setting, of a listed symbol
  record Set : Type 0 where
    listed : is_listed (standing_in l e.symbol) ≡ true
    plans : comes_to books s ≡ setting e

  set_if_lem : (stock : StockStanding) → is_done (answer_of (halt_rule stock e)) ≡ true → (is_listed stock ≡ true) × (halt_rule stock e ≡ setting e)
  unfolding halt_rule refused is_done
  set_if_lem stock d = by (is_listed stock) refl d
    where
      by : (b : Bool) → is_listed stock ≡ b → is_done (answer_of (not b ⇒ refused NotLive ⨾ setting e)) ≡ true
          → (is_listed stock ≡ true) × ((not b ⇒ refused NotLive ⨾ setting e) ≡ setting e)
      by true q d = (q, refl)
      by false q d = absurd (false≢true d)

  sets : kind_of s ≡ SetsStock → Set
  unfolding decide_by
  sets halt =
      let passed = passed books s done in
      let is = passed.is ∙ decided-by books s (of-sound books.table ok) passed.legal SetsStock halt in
      let r = set_if_lem (standing_in l e.symbol) (ap (λ (d : Decision). is_done (answer_of d)) (sym is) ∙ done) in
      record { listed = r.0; plans = is ∙ r.1 }

  set_to : kind_of s ≡ SetsStock → set_if l (plan_of (comes_to books s)).stock ≡ with_state l e.symbol e.state
  unfolding set_if setting
  set_to halt = ap (λ (d : Decision). set_if l (plan_of d).stock) (sets halt).plans

  silent : kind_of s ≡ SetsStock → message (stamp_of s) (plan_of (comes_to books s)) ≡ []
  unfolding message notice_bytes setting
  silent halt = ap (λ (d : Decision). message (stamp_of s) (plan_of d)) (sets halt).plans

  pub stays-good : list_good l ≡ true → list_good (set_if l (plan_of (comes_to books s)).stock) ≡ true
  stays-good good = by (is_halt (kind_of s))
    where
      by : (kind_of s ≡ SetsStock) ⊎ (kind_of s ≢ SetsStock) → list_good (set_if l (plan_of (comes_to books s)).stock) ≡ true
      by (inl halt) =
          ap list_good (set_to halt) ∙ (set_keeps l e.symbol e.state good (state-legal s (passed books s done).legal halt)).good
      by (inr other) = ap list_good (quiet other) ∙ good

-- ---- any step

module _ (w : World) (s : List ℕ) where
  abbrev before : List ℕ
  before = w.books.stocks

  abbrev after : List ℕ
  after = (step w s).world.books.stocks

  -- what is done sets what its plan sets
  set-list : Does w s (step w s) → after ≡ set_if before (plan_of (comes w s)).stock
  unfolding world_after books_after
  set-list d = ap (λ (x : World). x.books.stocks) d.world

  untouched : (step w s).world ≡ w → after ≡ before
  untouched e = ap (λ (x : World). x.books.stocks) e

  halts : kind_of s ≡ SetsStock → Does w s (step w s) → Halts w s
  halts halt d =
      let ok = d.ready.table in
      let to = set-list d ∙ set_to w.books s ok d.comes-done halt in
      let known = state-legal s (passed w.books s d.comes-done).legal halt in
      let kept = set_keeps before (stock_state_of s).symbol (stock_state_of s).state d.ready.stocks known in
      record {
        listed = (sets w.books s ok d.comes-done halt).listed;
        set = to;
        one_byte = λ k apart. ap (λ (l : List ℕ). get_or l k 0) to ∙ kept.one_byte k apart;
        sends-nothing = silent w.books s ok d.comes-done halt;
      }

  pub keeps-stocks : KeepsStocks w s
  unfolding is_done
  keeps-stocks =
      record {
        others = λ other. either w s untouched λ _ d. set-list d ∙ quiet w.books s d.ready.table d.comes-done other;
        only-done = λ refused. either w s untouched λ e _. absurd (refused (is-done (step w s).answer e));
        done = λ halt e. halts halt (done-does w s (ap is_done e));
        good = λ right. either w s (λ e. ap list_good (untouched e) ∙ right)
            λ _ d. ap list_good (set-list d) ∙ stays-good w.books s d.ready.table d.comes-done right;
      }
