-- A token once used stays used: no entry takes a record's token away, and the used records only grow. Assumes nothing.
use Rattle.octets.proofs.Proving.{List, [], ◌<◌, ◌∙◌, ◌≡◌, ◌≤◌, ◌⊎◌, ap, arith, dec_lt, false≢true, inl, inr, refl, subst, sym, true, ℕ}
use Rattle.answers.specs.Answer.{is_done}
use Rattle.orders.specs.Order.{is_used, no_order}
use Rattle.table.specs.Table.{header, used_in, order_at, place_of, order_named, record_bytes, sound}
use Rattle.orders.specs.declared.order.Order.{Order}
use Rattle.orders.proofs.Standing.{Live, Dead, Rejected}
use Rattle.table.proofs.Soundness.{Sound, of-sound}
use Rattle.table.proofs.Finding.{found, not_found}
use Rattle.rules.specs.Plan.{answer_of, plan_of}
use Rattle.host.specs.Step.{Books, World, comes_to, books_after, world_after, step}
use Rattle.laws.proofs.Given.{from_is, from-none, none-unused}
use Rattle.laws.proofs.Sounds.{S, keeps}
use Rattle.laws.proofs.Records.{left, written, left-used, each-record}
use Rattle.laws.proofs.Steps.{either}
use Rattle.day.specs.Day.{unlimited, books_with}
use Rattle.day.proofs.Plays.{plays}

-- ---- a token is used where a used record has it

-- a sound record's state is a letter
good-used : (s : List ℕ) (o : Order) → Live o ⊎ (Dead o ⊎ Rejected s o) → is_used o ≡ true
unfolding is_used
good-used s o (inl l) = rw l.0
good-used s o (inr (inl d)) = rw d.0
good-used s o (inr (inr r)) = rw r.0

module _ (t token : List ℕ) where
  pub named-is : place_of t token < used_in t → order_named t token ≡ order_at t (place_of t token)
  unfolding order_named
  named-is h = from_is t (place_of t token) h

  pub named_none : used_in t ≤ place_of t token → order_named t token ≡ no_order
  unfolding order_named
  named_none h = from-none t (place_of t token) h

  pub has-used : Sound t → (i : ℕ) → i < used_in t → (order_at t i).token ≡ token → is_used (order_named t token) ≡ true
  unfolding order_at
  has-used ok i l has = elim (dec_lt (place_of t token) (used_in t)) [
    | yes h ↦
        ap is_used (named-is h)
        ∙ good-used (record_bytes t (place_of t token)) _ (ok.records (place_of t token) (omega (arith, h, ok.used))).standing
    | no h ↦ absurd (not_found t token (omega arith) i l has)
  ]

  pub used-has : is_used (order_named t token) ≡ true → place_of t token < used_in t
  used-has u = elim (dec_lt (place_of t token) (used_in t)) [
    | yes h ↦ h
    | no h ↦ absurd (false≢true (sym none-unused ∙ ap is_used (sym (named_none (omega arith))) ∙ u))
  ]

-- ---- one done entry

module _ (books : Books) (s : List ℕ) (ok : sound books.table ≡ true) (done : is_done (answer_of (comes_to books s)) ≡ true) where
  abbrev t : List ℕ
  t = books.table

  pub tokens-stay : (i : ℕ) → i < (header t).used → (order_at (left books s ok done) i).token ≡ (order_at t i).token
  tokens-stay = each-record books s ok done (λ x y. y.token ≡ x.token) (λ x. refl) (λ c. c.token)

  pub left_is_lem : left books s ok done ≡ (books_with books s (plan_of (comes_to books s))).table
  unfolding books_after
  left_is_lem = sym (written books s ok done)

  pub stays-used : (token : List ℕ) → is_used (order_named t token) ≡ true → is_used (order_named (books_with books s (plan_of (comes_to books s))).table token) ≡ true
  unfolding books_after
  stays-used token u =
      let l = used-has t token u in
      let after : Sound (left books s ok done) = of-sound _ (ap sound left_is_lem ∙ keeps books s ok done) in
      ap (λ (x : List ℕ). is_used (order_named x token)) (sym left_is_lem)
      ∙ has-used (left books s ok done) token after (place_of t token) (omega (arith, l, (S books s ok done).used, after.used, left-used books s ok done))
      (tokens-stay (place_of t token) (omega (arith, l, (S books s ok done).used)) ∙ (found t token l).has)

-- ---- any step, and any tape

module _ (w : World) (s token : List ℕ) where
  abbrev Used : World → Type 0
  Used x = is_used (order_named x.books.table token) ≡ true

  pub step-stays-used : Used w → Used (step w s).world
  unfolding world_after books_after
  step-stays-used u =
      either w s (λ e. subst Used (sym e) u)
      λ _ d. subst Used (sym d.world) (stays-used w.books s d.ready.table d.comes-done token u)

pub used-for-good : (ss : List (List ℕ)) (b : Books) (token : List ℕ) → sound b.table ≡ true → is_used (order_named b.table token) ≡ true
    → is_used (order_named (unlimited b ss).books.table token) ≡ true
used-for-good ss b token ok u =
    plays (λ b' past. is_used (order_named b'.table token) ≡ true) (λ b' s past good done v. stays-used b' s good done token v) ss b [] ok u
