-- What a done entry sends: nothing, or one message of the twelve that is legal for its reader and fits the shortest ring. Assumes nothing.
use Rattle.octets.proofs.Proving.{List, ◌<◌, ◌≡◌, ◌≤◌, ap, arith, get_or, length, refl, subst, sym, true, ℕ}
use Rattle.octets.specs.Bytes.{number_of, digits}
use Rattle.octets.proofs.Laws.{number_digits}
use Rattle.octets.proofs.Below.{all-at}
use Rattle.answers.specs.Answer.{is_done}
use Rattle.wire.specs.Layout.{Values, legal_token, spell, unbroken, well_laid}
use Rattle.wire.specs.Legal.{Obeys}
use Rattle.wire.specs.Limits.{token_size, stamp_end}
use Rattle.wire.specs.Messages.{message_layout}
use Rattle.wire.specs.Text.{token_byte}
use Rattle.wire.proofs.Layouts.{Sized, length-spelled}
use Rattle.wire.proofs.NoneBad.{legal_token as judged_token}
use Rattle.wire.proofs.Says.{says-token}
use Rattle.wire.proofs.Sendable.{Obeying, spelled-legal}
use Rattle.orders.specs.Order.{rejected_order, is_live}
use Rattle.outbound.specs.Outbound.{system_event_bytes, accepted_bytes, replaced_bytes, canceled_bytes, aiq_cancelled_bytes, executed_bytes, rejected_bytes, cancel_pending_bytes, cancel_reject_bytes, priority_update_bytes, modified_bytes}
use Rattle.outbox.specs.Limits.{shortest_ring}
use Rattle.table.specs.Table.{sound}
use Rattle.tape.specs.Entries.{stamp_of}
use Rattle.notices.specs.Notices.{stated_order, accepted_notice, replaced_notice, canceled_notice, self_match_notice, executed_notice, rejected_notice, priority_notice, modified_notice, notice_bytes, message}
use Rattle.rules.specs.Plan.{answer_of, plan_of}
use Rattle.host.specs.Step.{Books, comes_to}
use Rattle.laws.specs.Messages.{AtMostOne, silent, told}
use Rattle.laws.proofs.Types.{Order, Plan, Decision, Notice, Accepted, AiqCancelled, CancelPending, CancelReject, Canceled, Executed, Modified, PriorityUpdate, Rejected, Replaced, Silent, SystemEvent}
use Rattle.laws.proofs.Shapes.{Shaped, Addition, nothing, rejected, born, Subject, of_none, of_named, of_new, of_both, subject, Older, Shape, nobody, changes, accepts, rejects, replaces, addition-of}
use Rattle.laws.proofs.Given.{shaped-none, sane-from, token-legal}
use Rattle.laws.proofs.Comes.{stamp-legal}
use Rattle.laws.proofs.Sounds.{S, P, K, place, p, o}

-- one of the twelve, with texts of their widths and values that are legal
one : (k : ℕ) → 4 ≤ k → k < 16 → well_laid (message_layout k) ≡ true → (message_layout k).size ≤ shortest_ring → (v : Values (message_layout k).fields)
    → Sized (message_layout k).fields v → Obeying (message_layout k).fields v → AtMostOne (spell (message_layout k) v)
one k low high well most v sized good =
    let long = length-spelled (message_layout k) well v sized in
    told (record { number = k; low = low; high = high; legal = spelled-legal (message_layout k) well v sized good }) (omega (arith, long))

-- a token that a message may name
record Named (token : List ℕ) : Type 0 where
  pub long : length token ≡ token_size
  pub legal : Obeys legal_token token

may-name : (token : List ℕ) → length token ≡ token_size → judged_token token ≡ true → Named token
unfolding Obeys
may-name token long legal =
    record { long = long; legal = λ i l. (says-token (get_or token i 0)).so (all-at (λ k. token_byte (get_or token k 0)) (length token) i legal l) }

-- the tokens that a message names
abbrev Tells : Subject → Order → Order → Type 0
Tells of_none o new = Unit {0}
Tells of_named o new = Named o.token
Tells of_new o new = Named new.token
Tells of_both o new = Named new.token × Named new.details.previous

-- a stamp of the day, spelled
in-day : (stamp : ℕ) → stamp < stamp_end → number_of (digits 8 stamp) < stamp_end
unfolding number_of
in-day stamp legal = omega (arith, number_digits 8 stamp (omega arith))

notice-one : (stamp : ℕ) (o new : Order) (notice : Notice) → stamp < stamp_end → Shaped new → Tells (subject notice) o new
    → AtMostOne (notice_bytes stamp o new notice)
unfolding notice_bytes well_laid unbroken Obeys stated_order system_event_bytes accepted_bytes accepted_notice replaced_bytes replaced_notice canceled_bytes canceled_notice aiq_cancelled_bytes self_match_notice executed_bytes executed_notice rejected_bytes rejected_notice cancel_pending_bytes cancel_reject_bytes priority_update_bytes priority_notice modified_bytes modified_notice
notice-one stamp o new Silent d sn n = silent refl
notice-one stamp o new (SystemEvent event) d sn n =
    one 4 (omega arith) (omega arith) refl (omega arith) _ (tt, (tt, tt)) (in-day stamp d, (tt, tt))
notice-one stamp o new Accepted d sn n =
    one 5 (omega arith) (omega arith) refl (omega arith) _
    (tt, (n.long, (tt, (tt, (sn.stock, (tt, (tt, (sn.firm, (tt, (tt, (tt, (tt, (tt, (tt, (tt, (tt, tt))))))))))))))))
    (in-day stamp d, (n.legal, (tt, (tt, (tt, (tt, (tt, (tt, (tt, (tt, (tt, (tt, (tt, (tt, (tt, (tt, tt))))))))))))))))
notice-one stamp o new Replaced d sn n =
    one 6 (omega arith) (omega arith) refl (omega arith) _
    (tt, (n.0.long, (tt, (tt, (sn.stock, (tt, (tt, (sn.firm, (tt, (tt, (tt, (tt, (tt, (tt, (tt, (n.1.long, (tt, tt)))))))))))))))))
    (in-day stamp d, (n.0.legal, (tt, (tt, (tt, (tt, (tt, (tt, (tt, (tt, (tt, (tt, (tt, (tt, (tt, (n.1.legal, (tt, tt)))))))))))))))))
notice-one stamp o new (Canceled decrement reason) d sn n =
    one 7 (omega arith) (omega arith) refl (omega arith) _ (tt, (n.long, (tt, (tt, tt)))) (in-day stamp d, (n.legal, (tt, (tt, tt))))
notice-one stamp o new (AiqCancelled e) d sn n =
    one 8 (omega arith) (omega arith) refl (omega arith) _ (tt, (n.long, (tt, (tt, (tt, (tt, (tt, tt)))))))
    (in-day stamp d, (n.legal, (tt, (tt, (tt, (tt, (tt, tt)))))))
notice-one stamp o new (Executed e) d sn n =
    one 9 (omega arith) (omega arith) refl (omega arith) _ (tt, (n.long, (tt, (tt, (tt, (tt, tt))))))
    (in-day stamp d, (n.legal, (tt, (tt, (tt, (tt, tt))))))
notice-one stamp o new (Rejected reason) d sn n =
    one 11 (omega arith) (omega arith) refl (omega arith) _ (tt, (n.long, (tt, tt))) (in-day stamp d, (n.legal, (tt, tt)))
notice-one stamp o new CancelPending d sn n =
    one 12 (omega arith) (omega arith) refl (omega arith) _ (tt, (n.long, tt)) (in-day stamp d, (n.legal, tt))
notice-one stamp o new CancelReject d sn n =
    one 13 (omega arith) (omega arith) refl (omega arith) _ (tt, (n.long, tt)) (in-day stamp d, (n.legal, tt))
notice-one stamp o new PriorityUpdate d sn n =
    one 14 (omega arith) (omega arith) refl (omega arith) _ (tt, (n.long, (tt, (tt, (tt, tt))))) (in-day stamp d, (n.legal, (tt, (tt, (tt, tt)))))
notice-one stamp o new Modified d sn n =
    one 15 (omega arith) (omega arith) refl (omega arith) _ (tt, (n.long, (tt, (tt, tt)))) (in-day stamp d, (n.legal, (tt, (tt, tt))))

added-shaped : {t : List ℕ} {o : Order} (new : Order) → length t ≡ token_size → Addition t o new → Shaped new
unfolding rejected_order
added-shaped new long (nothing e) = rw e shaped-none
added-shaped new long (rejected e) =
    rw e (record { token = long; stock = shaped-none.stock; firm = shaped-none.firm; previous = shaped-none.previous })
added-shaped new long (born x before b) = b.shaped

-- ---- of every decision that keeps what it should

older : (x : Subject) (o new : Order) → Older x → Named o.token → Tells x o new
older of_none o new of n = tt
older of_named o new of n = n
older of_new o new of n = absurd of
older of_both o new of n = absurd of

-- the named order's token may be named where it is live, and so may the token that is used up
tells : {o found : Order} {token : List ℕ} → (is_live o ≡ true → Named o.token) → Named token → (p : Plan) → Shape o found token p
    → Tells (subject p.notice) p.changed p.added
unfolding rejected_order
tells stands used p (nobody c a of) = rw of tt
tells stands used p (changes c a of) = older (subject p.notice) p.changed p.added of (rw c.token (stands c.alive))
tells stands used p (accepts f c b e) = rw e (rw b.token used)
tells stands used p (rejects f c a reason e) = rw (e, a) used
tells stands used p (replaces f c end b e) = rw e (rw b.token used, rw b.previous (stands c.alive))

module _ (books : Books) (s : List ℕ) (ok : sound books.table ≡ true) (done : is_done (answer_of (comes_to books s)) ≡ true) where
  abbrev t : List ℕ
  t = books.table

  pub sends : AtMostOne (message (stamp_of s) (plan_of (comes_to books s)))
  unfolding message
  sends =
      let k = K books s ok done in
      let plan = p books s ok done in
      let S = S books s ok done in
      subst (λ (d : Decision). AtMostOne (message (stamp_of s) (plan_of d))) (sym (P books s ok done).is)
      (notice-one (stamp_of s) plan.changed plan.added plan.notice (stamp-legal s (P books s ok done).legal)
      (added-shaped plan.added k.1.0.long (addition-of k.1.1.shape))
      (tells (λ alive. may-name _ (sane-from t S (place books s ok done)).shaped.token (token-legal t S (place books s ok done) alive))
      (may-name k.0 k.1.0.long k.1.0.legal) plan k.1.1.shape))

  pub short : length (message (stamp_of s) (plan_of (comes_to books s))) ≤ shortest_ring
  short = at_most sends
    where
      at_most : {m : List ℕ} → AtMostOne m → length m ≤ shortest_ring
      at_most (silent e) = omega (arith, ap length e)
      at_most (told one most) = most
