-- What a message tells as executed: an Executed its shares, under its own token, and every other message nothing. Assumes nothing.
use Rattle.octets.proofs.Proving.{Bool, List, [], ◌++◌, ◌+◌, ◌<◌, ◌^◌, ◌∙◌, ◌∷◌, ◌≡◌, ap, append_assoc, ap₂, arith, false, length, length-append, refl, sym, true, ℕ}
use Rattle.octets.specs.Choice.{pick}
use Rattle.octets.specs.Bytes.{part, same, digits, number_of}
use Rattle.octets.proofs.Laws.{length_digits, number_digits}
use Rattle.wire.specs.Limits.{token_size}
use Rattle.wire.specs.Layout.{spell}
use Rattle.wire.proofs.Layouts.{part-there}
use Rattle.wire.specs.Messages.{executed}
use Rattle.outbound.specs.Outbound.{system_event_bytes, accepted_bytes, replaced_bytes, canceled_bytes, aiq_cancelled_bytes, executed_bytes, rejected_bytes, cancel_pending_bytes, cancel_reject_bytes, priority_update_bytes, modified_bytes, executed_of}
use Rattle.orders.specs.declared.order.Order.{Order}
use Rattle.rules.specs.declared.plan.Notice.{Notice}
use Rattle.rules.specs.declared.plan.Notice.TheVariants.{Accepted, AiqCancelled, CancelPending, CancelReject, Canceled, Executed, Modified, PriorityUpdate, Rejected, Replaced, Silent, SystemEvent}
use Rattle.laws.proofs.Shapes.{told_executed}
use Rattle.notices.specs.Notices.{notice_bytes, executed_notice}
use Rattle.day.specs.Chain.{executed_by, executed_in}
use Rattle.day.specs.Day.{telling}

-- ---- one message

-- the token and the shares of an Executed, read from its bytes
module _ (stamp shares : ℕ) (token rest : List ℕ) (long : length token ≡ token_size) where
  abbrev front : List ℕ
  front = executed.code ∷ digits 8 stamp

  nine : length front ≡ 9
  nine = omega (arith, length_digits 8 stamp)

  token-told : part (front ++ (token ++ (digits 4 shares ++ rest))) 9 14 ≡ token
  token-told = part-there front token (digits 4 shares ++ rest) 9 14 nine long

  shares-told : shares < 256 ^ 4 → number_of (part (front ++ (token ++ (digits 4 shares ++ rest))) 23 4) ≡ shares
  unfolding number_of
  shares-told fits =
      ap (λ (m : List ℕ). number_of (part m 23 4)) (sym (append_assoc front token (digits 4 shares ++ rest)))
      ∙ ap number_of (part-there (front ++ token) (digits 4 shares) rest 23 4 (length-append front token ∙ omega (arith, nine, long)) (length_digits 4 shares))
      ∙ number_digits 4 shares fits

nothing : (b : Bool) → ◌≡◌ {A = ℕ} 0 (pick b 0 0)
nothing true = refl
nothing false = refl

pub tells : (stamp : ℕ) (o new : Order) (notice : Notice) (token : List ℕ) → length o.token ≡ token_size → told_executed notice < 256 ^ 4
    → executed_by token (notice_bytes stamp o new notice) ≡ pick (same o.token token) (told_executed notice) 0
unfolding executed_by notice_bytes spell executed_of system_event_bytes accepted_bytes replaced_bytes canceled_bytes aiq_cancelled_bytes executed_bytes executed_notice rejected_bytes cancel_pending_bytes cancel_reject_bytes priority_update_bytes modified_bytes
tells stamp o new (Executed e) token long fits =
    ap₂ (λ (t : List ℕ) (n : ℕ). pick (same t token) n 0) (token-told stamp e.shares.0 o.token _ long)
    (shares-told stamp e.shares.0 o.token _ long fits)
tells stamp o new Silent token long fits = nothing (same o.token token)
tells stamp o new (SystemEvent event) token long fits = nothing (same o.token token)
tells stamp o new Accepted token long fits = nothing (same o.token token)
tells stamp o new Replaced token long fits = nothing (same o.token token)
tells stamp o new (Canceled decrement reason) token long fits = nothing (same o.token token)
tells stamp o new (AiqCancelled e) token long fits = nothing (same o.token token)
tells stamp o new (Rejected reason) token long fits = nothing (same o.token token)
tells stamp o new CancelPending token long fits = nothing (same o.token token)
tells stamp o new CancelReject token long fits = nothing (same o.token token)
tells stamp o new PriorityUpdate token long fits = nothing (same o.token token)
tells stamp o new Modified token long fits = nothing (same o.token token)

-- ---- messages one behind the other

pub executed-append : (token : List ℕ) (a b : List (List ℕ)) → executed_in token (a ++ b) ≡ executed_in token a + executed_in token b
unfolding executed_in
executed-append token [] b = omega arith
executed-append token (m ∷ a) b = omega (arith, executed-append token a b)

-- an entry that sends nothing tells nothing
pub executed-telling : (token m : List ℕ) → executed_in token (telling m []) ≡ executed_by token m
unfolding executed_in executed_by
executed-telling token [] = refl
executed-telling token (b ∷ bs) = omega arith
