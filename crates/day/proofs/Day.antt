-- Nothing is lost and nothing comes twice. At every moment of every schedule the bytes released, the bytes held and the messages still to
-- come are the messages of unlimited room; the answers but for 'blocked' and the books agree too. It is true because what an entry comes to
-- is decided without a look at the ring, and because a message that has no room leaves everything as it was. Assumes nothing.
use Rattle.octets.proofs.Proving.{Bool, List, [], ◌++◌, ◌∙◌, ◌∷◌, ◌≡◌, ◌≤◌, ap, append_assoc, append-nil, ap₂, arith, drop, false, length, ltb-false, refl, subst, sym, take, take-append-drop, true, ℕ}
use Rattle.octets.specs.Bytes.{joined}
use Rattle.answers.specs.Answer.{is_done}
use Rattle.answers.proofs.Laws.{is-done, not_done}
use Rattle.tape.specs.Entries.{stamp_of}
use Rattle.notices.specs.Notices.{message}
use Rattle.outbox.specs.Outbox.{ring_good, free_bytes, held, marks_with, read_run, release_answer, release_marks}
use Rattle.outbox.proofs.With.{fits-free, length-with}
use Rattle.outbox.proofs.Right.{good-with}
use Rattle.outbox.proofs.Held.{held_with, length-held}
use Rattle.outbox.proofs.Board.{refused-release-changes-nothing, release-keeps-good, release-drops, read-is-prefix}
use Rattle.stocks.specs.Stocks.{list_good}
use Rattle.laws.proofs.Sounds.{keeps}
use Rattle.laws.proofs.Halted.{stays-good}
use Rattle.laws.proofs.Comes.{unblocked}
use Rattle.answers.specs.Answer.{Answer}
use Rattle.rules.specs.Types.{Decision}
use Rattle.rules.specs.declared.plan.Plan.{Plan}
use Rattle.rules.specs.Plan.{answer_of, plan_of}
use Rattle.host.specs.Step.{World, Outcome, named_place, comes_to, no_room, step, books_after, world_after}
use Rattle.laws.proofs.Steps.{step_by, step_by_lem, comes, full}
use Rattle.table.proofs.Soundness.{of-sound}
use Rattle.day.specs.Demand.{bytes, Streams, Begins}
use Rattle.day.specs.Day.{Played, telling, play_on, unlimited, Action, offer_next, look, release, Ran, with_marks, given_up, offered, run, books_with}
use Rattle.laws.specs.Blocked.{is_blocked}
use Rattle.laws.specs.Ready.{Ready}

-- ---- small things

joined-telling : (m : List ℕ) (ms : List (List ℕ)) → joined (telling m ms) ≡ m ++ joined ms
unfolding joined
joined-telling [] ms = refl
joined-telling (b ∷ bs) ms = refl

-- over a sound table, a right ring and a right list only two questions are left
pub as-judged : (w : World) (s : List ℕ) → Ready w → step w s ≡ step_by w s (comes w s) true true true (is_done (answer_of (comes w s))) (full w s)
as-judged w s ok =
    step_by_lem w s
    ∙ ap₂ (λ (t r : Bool). step_by w s (comes w s) t r (list_good w.books.stocks) (is_done (answer_of (comes w s))) (full w s)) ok.table ok.ring
    ∙ ap (λ (l : Bool). step_by w s (comes w s) true true l (is_done (answer_of (comes w s))) (full w s)) ok.stocks

nothing : (l : List ℕ) → length l ≡ 0 → l ≡ []
nothing [] h = refl
nothing (b ∷ l) h = absurd (omega arith)

nothing-held : (w : World) → Ready w → w.marks.held ≡ 0 → bytes w ≡ []
nothing-held w ok none = nothing (bytes w) (length-held w.ring w.marks ok.ring ∙ none)

-- ---- one message more

-- a done entry's message goes behind the held bytes, and the ring stays right
module _ (w : World) (place stamp : ℕ) (p : Plan) (ok : ring_good (length w.ring) w.marks ≡ true) (room : no_room w stamp p ≡ false) where
  fits : length (message stamp p) ≤ free_bytes (length w.ring) w.marks
  unfolding no_room
  fits = ltb-false _ _ room

  pub bytes_after : bytes (world_after w place stamp p) ≡ bytes w ++ message stamp p
  unfolding world_after
  bytes_after = held_with w.ring w.marks ok (message stamp p) fits

  pub ring-after : ring_good (length (world_after w place stamp p).ring) (world_after w place stamp p).marks ≡ true
  unfolding world_after
  ring-after =
      ap (λ (n : ℕ). ring_good n (marks_with w.marks (length (message stamp p))))
      (length-with w.ring w.marks (message stamp p) (fits-free w.ring w.marks (message stamp p) ok fits))
      ∙ good-with (length w.ring) w.marks ok (length (message stamp p)) fits

-- ---- the invariant

-- r is how far a schedule came from a world that held b; p is the play with unlimited room from there
pub record Kept (b : List ℕ) (p : Played) (r : Ran) : Type 0 where
  pub ready : Ready r.world
  pub answers : r.answers ++ (unlimited r.world.books r.left).answers ≡ p.answers
  pub books : (unlimited r.world.books r.left).books ≡ p.books
  pub messages : r.released ++ (bytes r.world ++ joined (unlimited r.world.books r.left).messages) ≡ b ++ joined p.messages

-- what the rest of a schedule is known to keep
abbrev Rest : (World → List (List ℕ) → Ran) → Type 0
Rest go = (w : World) (ss : List (List ℕ)) → Ready w → Kept (bytes w) (unlimited w.books ss) (go w ss)

module _ (w : World) (s : List ℕ) (ss : List (List ℕ)) (go : World → List (List ℕ) → Ran) (ok : Ready w) (rest : Rest go) where
  d : Decision
  d = comes_to w.books s

  abbrev outcome : Bool → Bool → Outcome
  outcome done full = step_by w s (comes_to w.books s) true true true done full

  play-more : is_done (answer_of d) ≡ true → unlimited w.books (s ∷ ss) ≡ play_on w.books s d true (λ b'. unlimited b' ss)
  unfolding unlimited d
  play-more e = ap (λ (b : Bool). play_on w.books s (comes_to w.books s) b (λ b'. unlimited b' ss)) e

  by : (done full : Bool) → is_done (answer_of d) ≡ done → no_room w (stamp_of s) (plan_of d) ≡ full
      → Kept (bytes w) (play_on w.books s d done (λ b'. unlimited b' ss)) (offered s ss (outcome done full) (is_blocked (outcome done full).answer) go)
  unfolding d world_after books_after
  by false full e f =
      let k = rest w ss ok in
      rw (unblocked w.books s (of-sound w.books.table ok.table))
      (record {
        ready = k.ready;
        answers = ap (λ (l : List Answer). answer_of d ∷ l) k.answers;
        books = k.books;
        messages = k.messages;
      })
  by true true e f =
      subst (λ (p : Played). Kept (bytes w) p (go w (s ∷ ss))) (play-more e) (rest w (s ∷ ss) ok)
  by true false e f =
      let p = plan_of d in
      let m = message (stamp_of s) p in
      let after : World = world_after w (named_place w.books.table s) (stamp_of s) p in
      let k = rest after ss record {
        table = keeps w.books s ok.table e;
        ring = ring-after w (named_place w.books.table s) (stamp_of s) p ok.ring f;
        stocks = stays-good w.books s ok.table e ok.stocks;
      } in
      let later = (unlimited (books_with w.books s p) ss).messages in
      record {
        ready = k.ready;
        answers = ap₂ ◌∷◌ (sym (is-done (answer_of d) e)) k.answers;
        books = k.books;
        messages = k.messages
            ∙ ap (λ (b : List ℕ). b ++ joined later) (bytes_after w (named_place w.books.table s) (stamp_of s) p ok.ring f)
            ∙ append_assoc (bytes w) m (joined later)
            ∙ ap (λ (l : List ℕ). bytes w ++ l) (sym (joined-telling m later));
      }

  pub offered-keeps : Kept (bytes w) (unlimited w.books (s ∷ ss)) (offered s ss (step w s) (is_blocked (step w s).answer) go)
  unfolding unlimited d
  offered-keeps = rw (as-judged w s ok) (by (is_done (answer_of d)) (no_room w (stamp_of s) (plan_of d)) refl refl)

-- ---- a release between

module _ (w : World) (k : ℕ) (ss : List (List ℕ)) (go : World → List (List ℕ) → Ran) (ok : Ready w) (rest : Rest go) where
  abbrev lowered : World
  lowered = with_marks w (release_marks (length w.ring) w.marks k)

  -- what is given up and what is then held are what was held
  ready-lowered : (done : Bool) → is_done (release_answer (length w.ring) w.marks k) ≡ done
      → Ready lowered × (given_up w k ++ bytes lowered ≡ bytes w)
  unfolding given_up
  ready-lowered true e =
      let a = is-done (release_answer (length w.ring) w.marks k) e in (
        record { table = ok.table; ring = release-keeps-good (length w.ring) w.marks k a; stocks = ok.stocks },
        rw e (ap (λ (l : List ℕ). take k (bytes w) ++ l) (release-drops w.ring w.marks k a) ∙ take-append-drop k (bytes w)),
      )
  ready-lowered false e =
      let m = refused-release-changes-nothing (length w.ring) w.marks k (not_done (release_answer (length w.ring) w.marks k) e) in (
        record { table = ok.table; ring = ap (ring_good (length w.ring)) m ∙ ok.ring; stocks = ok.stocks },
        rw e (ap (held w.ring) m),
      )

  pub released-keeps : Kept (bytes w) (unlimited w.books ss)
      (let x = go lowered ss in record { left = x.left; answers = x.answers; released = given_up w k ++ x.released; world = x.world })
  released-keeps =
      let q = ready-lowered (is_done (release_answer (length w.ring) w.marks k)) refl in
      let x = rest lowered ss q.0 in
      let later = joined (unlimited w.books ss).messages in
      record {
        ready = x.ready;
        answers = x.answers;
        books = x.books;
        messages = append_assoc (given_up w k) _ _
            ∙ ap (λ (l : List ℕ). given_up w k ++ l) x.messages
            ∙ sym (append_assoc (given_up w k) (bytes lowered) later)
            ∙ ap (λ (l : List ℕ). l ++ later) q.1;
      }

-- ---- every schedule

pub kept : (todo : List Action) → Rest (λ (w : World) (ss : List (List ℕ)). run w ss todo)
unfolding run
kept [] w ss ok = record { ready = ok; answers = refl; books = refl; messages = refl }
kept (look ∷ todo) w ss ok = kept todo w ss ok
kept (release k ∷ todo) w ss ok = released-keeps w k ss (λ (w' : World) (ss' : List (List ℕ)). run w' ss' todo) ok (kept todo)
kept (offer_next ∷ todo) w [] ok = kept todo w [] ok
kept (offer_next ∷ todo) w (s ∷ ss) ok = offered-keeps w s ss (λ (w' : World) (ss' : List (List ℕ)). run w' ss' todo) ok (kept todo)

-- ---- demand 3, for a schedule that gets through the list

pub streams : (w : World) (ss : List (List ℕ)) (todo : List Action) → Ready w → w.marks.held ≡ 0 → (run w ss todo).left ≡ []
    → Streams (unlimited w.books ss) (run w ss todo)
unfolding unlimited joined
streams w ss todo ok none through =
    let r = run w ss todo in
    let k = kept todo w ss ok in
    let end : unlimited r.world.books r.left ≡ record { answers = []; books = r.world.books; messages = [] } =
    ap (unlimited r.world.books) through in
    let p = unlimited w.books ss in
    record {
      messages = ap (λ (l : List ℕ). r.released ++ l) (sym (append-nil (bytes r.world)))
          ∙ sym (ap (λ (q : Played). r.released ++ (bytes r.world ++ joined q.messages)) end)
          ∙ k.messages
          ∙ ap (λ (l : List ℕ). l ++ joined p.messages) (nothing-held w ok none);
      answers = sym (append-nil r.answers) ∙ sym (ap (λ (q : Played). r.answers ++ q.answers) end) ∙ k.answers;
      books = sym (ap (λ (q : Played). q.books) end) ∙ k.books;
    }

-- at any moment, what is read next is the next part of that stream: released bytes and then the run are its beginning
pub reads_on : (w : World) (ss : List (List ℕ)) (todo : List Action) → Ready w → w.marks.held ≡ 0
    → Begins ((run w ss todo).released ++ read_run (run w ss todo).world.ring (run w ss todo).world.marks) (joined (unlimited w.books ss).messages)
reads_on w ss todo ok none =
    let r = run w ss todo in
    let k = kept todo w ss ok in
    let run' = read_run r.world.ring r.world.marks in
    let more = drop (length run') (bytes r.world) in
    let later = joined (unlimited r.world.books r.left).messages in
    let front : run' ++ more ≡ bytes r.world =
    ap (λ (l : List ℕ). l ++ more) (sym (read-is-prefix r.world.ring r.world.marks k.ready.ring))
    ∙ take-append-drop (length run') (bytes r.world) in
    record {
      rest = more ++ later;
      is = append_assoc r.released run' (more ++ later)
          ∙ ap (λ (l : List ℕ). r.released ++ l) (sym (append_assoc run' more later) ∙ ap (λ (l : List ℕ). l ++ later) front)
          ∙ k.messages
          ∙ ap (λ (l : List ℕ). l ++ joined (unlimited w.books ss).messages) (nothing-held w ok none);
    }
