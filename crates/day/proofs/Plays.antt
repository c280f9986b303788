-- What every done entry keeps, a whole play keeps: the one induction over the entries of a tape. Assumes nothing.
use Rattle.octets.proofs.Proving.{Bool, List, [], ◌++◌, ◌∙◌, ◌∷◌, ◌≡◌, ap, append_assoc, append-nil, false, refl, subst, sym, true, ℕ}
use Rattle.answers.specs.Answer.{is_done}
use Rattle.table.specs.Table.{sound}
use Rattle.tape.specs.Entries.{stamp_of}
use Rattle.notices.specs.Notices.{message}
use Rattle.stocks.specs.Stocks.{list_good}
use Rattle.rules.specs.Plan.{answer_of, plan_of}
use Rattle.host.specs.Step.{Books, books_after, comes_to}
use Rattle.laws.proofs.Sounds.{keeps}
use Rattle.laws.proofs.Halted.{quiet, stays-good}
use Rattle.day.specs.Day.{telling, play_on, unlimited, books_with}
use Rattle.day.specs.Demand.{NoHalts}

-- a message, or none, between the ones before and the ones behind
in_between : (m : List ℕ) (past ms : List (List ℕ)) → (past ++ telling m []) ++ ms ≡ past ++ telling m ms
in_between [] past ms = ap (λ (l : List (List ℕ)). l ++ ms) (append-nil past)
in_between (b ∷ bs) past ms = append_assoc past ((b ∷ bs) ∷ []) ms

-- something good of the books and the messages so far
module _ (Good : Books → List (List ℕ) → Type 0)
    (each : (b : Books) (s : List ℕ) (past : List (List ℕ)) → sound b.table ≡ true → is_done (answer_of (comes_to b s)) ≡ true → Good b past
    → Good (books_with b s (plan_of (comes_to b s))) (past ++ telling (message (stamp_of s) (plan_of (comes_to b s))) []))
  where
    abbrev Plays : List (List ℕ) → Type 0
    Plays ss = (b : Books) (past : List (List ℕ)) → sound b.table ≡ true → Good b past → Good (unlimited b ss).books (past ++ (unlimited b ss).messages)

    pub plays : (ss : List (List ℕ)) → Plays ss
    unfolding unlimited books_after
    plays [] b past ok good = subst (Good b) (sym (append-nil past)) good
    plays (s ∷ ss) b past ok good = by (is_done (answer_of (comes_to b s))) refl (plays ss)
      where
        by : (done : Bool) → is_done (answer_of (comes_to b s)) ≡ done → Plays ss
            → Good (play_on b s (comes_to b s) done (λ b'. unlimited b' ss)).books (past ++ (play_on b s (comes_to b s) done (λ b'. unlimited b' ss)).messages)
        by true done rest =
            let m = message (stamp_of s) (plan_of (comes_to b s)) in
            let b' = books_with b s (plan_of (comes_to b s)) in
            subst (Good (unlimited b' ss).books) (in_between m past (unlimited b' ss).messages)
            (rest b' (past ++ telling m []) (keeps b s ok done) (each b s past ok done good))
        by false e rest = rest b past ok good

-- a sound table stays sound
pub play-sound : (ss : List (List ℕ)) (b : Books) → sound b.table ≡ true → sound (unlimited b ss).books.table ≡ true
unfolding books_after
play-sound ss b ok = plays (λ b' past. sound b'.table ≡ true) (λ b' s past good done _. keeps b' s good done) ss b [] ok ok

-- a right list stays right
pub play-right : (ss : List (List ℕ)) (b : Books) → sound b.table ≡ true → list_good b.stocks ≡ true → list_good (unlimited b ss).books.stocks ≡ true
unfolding books_after
play-right ss b ok right =
    plays (λ b' past. list_good b'.stocks ≡ true) (λ b' s past good done r. stays-good b' s good done r) ss b [] ok right

-- and where no h is played it stays as it was
pub play-quiet : (ss : List (List ℕ)) → NoHalts ss → (b : Books) → sound b.table ≡ true → (unlimited b ss).books.stocks ≡ b.stocks
unfolding unlimited books_after
play-quiet [] none b ok = refl
play-quiet (s ∷ ss) none b ok = by (is_done (answer_of (comes_to b s))) refl (play-quiet ss none.1)
  where
    by : (done : Bool) → is_done (answer_of (comes_to b s)) ≡ done
        → ((b' : Books) → sound b'.table ≡ true → (unlimited b' ss).books.stocks ≡ b'.stocks)
        → (play_on b s (comes_to b s) done (λ b'. unlimited b' ss)).books.stocks ≡ b.stocks
    by true done rest = rest (books_with b s (plan_of (comes_to b s))) (keeps b s ok done) ∙ quiet b s ok done none.0
    by false e rest = rest b ok
