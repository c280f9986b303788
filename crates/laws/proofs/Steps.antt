-- What is true of every single step, whatever it is called on: only 'done' changes anything, a sound table stays sound and a right list right. Assumes nothing.
use Rattle.octets.proofs.Proving.{Bool, List, ◌∙◌, ◌≡◌, ap, false, false≢true, length, not, refl, subst, sym, true, ℕ}
use Rattle.octets.specs.Choice.{◌⇒◌⨾◌}
use Rattle.answers.specs.Answer.{is_done}
use Rattle.table.specs.Table.{sound}
use Rattle.tape.specs.Entries.{stamp_of}
use Rattle.outbox.specs.Outbox.{ring_good}
use Rattle.stocks.specs.Stocks.{list_good}
use Rattle.rules.specs.Plan.{answer_of, plan_of}
use Rattle.host.specs.Step.{World, Outcome, named_place, comes_to, no_room, carried_out, settle, offer, step, books_after, world_after, unchanged}
use Rattle.laws.specs.Ready.{Ready}
use Rattle.laws.specs.Records.{EveryRecord}
use Rattle.laws.proofs.Types.{Blocked, Done, NotSound, WrongRing, WrongStocks, Decision}
use Rattle.laws.proofs.Sounds.{keeps, every-record}

-- a step, by what was judged: table, ring, list, whether the entry comes to something done, and whether there is no room for its message
abbrev pub step_by : World → List ℕ → Decision → Bool → Bool → Bool → Bool → Bool → Outcome
step_by w s d table_good ring_right list_right done full =
    not table_good ⇒ unchanged w NotSound
    ⨾ not ring_right ⇒ unchanged w WrongRing
    ⨾ not list_right ⇒ unchanged w WrongStocks
    ⨾ done ⇒ (full ⇒ unchanged w Blocked ⨾ record { answer = Done; world = world_after w (named_place w.books.table s) (stamp_of s) (plan_of d) })
    ⨾ unchanged w (answer_of d)

module _ (w : World) (s : List ℕ) where
  abbrev pub comes : Decision
  comes = comes_to w.books s

  abbrev pub full : Bool
  full = no_room w (stamp_of s) (plan_of comes)

  pub step_by_lem : step w s ≡ step_by w s comes (sound w.books.table) (ring_good (length w.ring) w.marks) (list_good w.books.stocks) (is_done (answer_of comes)) full
  unfolding step offer settle carried_out
  step_by_lem = refl

  -- an answer other than 0 leaves table, ring, marks and list as they were
  pub only-done-changes : is_done (step w s).answer ≡ false → (step w s).world ≡ w
  unfolding is_done
  only-done-changes h =
      ap (λ (o : Outcome). o.world) step_by_lem
      ∙ by (sound w.books.table) (ring_good (length w.ring) w.marks) (list_good w.books.stocks) (is_done (answer_of comes)) full (ap (λ (o : Outcome). is_done o.answer) (sym step_by_lem) ∙ h)
    where
      by : (table_good ring_right list_right done full : Bool) → is_done (step_by w s comes table_good ring_right list_right done full).answer ≡ false
          → (step_by w s comes table_good ring_right list_right done full).world ≡ w
      by false r l d f h = refl
      by true false l d f h = refl
      by true true false d f h = refl
      by true true true false f h = refl
      by true true true true true h = refl
      by true true true true false h = absurd (false≢true (sym h))

  -- and 0 is answered where nothing was wrong, and the plan carried out
  pub record Does (o : Outcome) : Type 0 where
    pub ready : Ready w
    pub comes-done : is_done (answer_of comes) ≡ true
    pub world : o.world ≡ world_after w (named_place w.books.table s) (stamp_of s) (plan_of comes)

  pub done-does : is_done (step w s).answer ≡ true → Does (step w s)
  unfolding is_done
  done-does h =
      subst Does (sym step_by_lem)
      (by (sound w.books.table) (ring_good (length w.ring) w.marks) (list_good w.books.stocks) (is_done (answer_of comes)) full refl refl refl refl
      (ap (λ (o : Outcome). is_done o.answer) (sym step_by_lem) ∙ h))
    where
      by : (table_good ring_right list_right done full : Bool) → sound w.books.table ≡ table_good → ring_good (length w.ring) w.marks ≡ ring_right
          → list_good w.books.stocks ≡ list_right → is_done (answer_of comes) ≡ done
          → is_done (step_by w s comes table_good ring_right list_right done full).answer ≡ true → Does (step_by w s comes table_good ring_right list_right done full)
      by false r l d f t g q e h = absurd (false≢true h)
      by true false l d f t g q e h = absurd (false≢true h)
      by true true false d f t g q e h = absurd (false≢true h)
      by true true true false f t g q e h = absurd (false≢true (sym e ∙ h))
      by true true true true true t g q e h = absurd (false≢true h)
      by true true true true false t g q e h = record { ready = record { table = t; ring = g; stocks = q }; comes-done = e; world = refl }

  -- so whatever is asked of a step is asked of what stays, and of what was done
  pub either : {P : Type 0} → ((step w s).world ≡ w → P) → (is_done (step w s).answer ≡ true → Does (step w s) → P) → P
  either {P} same does = by (is_done (step w s).answer) refl
    where
      by : (b : Bool) → is_done (step w s).answer ≡ b → P
      by false q = same (only-done-changes q)
      by true q = does q (done-does q)

  -- a sound table stays sound
  pub stays-sound : sound w.books.table ≡ true → sound (step w s).world.books.table ≡ true
  unfolding world_after books_after
  stays-sound ok =
      either (λ e. ap (λ (x : World). sound x.books.table) e ∙ ok)
      λ _ d. ap (λ (x : World). sound x.books.table) d.world ∙ keeps w.books s ok d.comes-done

  -- so after every step an order whose open reached 0 is dead, and a dead record's liable is executed + self-matched
  pub records-after-step : sound w.books.table ≡ true → EveryRecord (step w s).world.books.table
  records-after-step ok = every-record (step w s).world.books.table (stays-sound ok)
