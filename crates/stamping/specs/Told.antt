-- What an entry that was made from a message says: nothing but its stamp can be wrong of it, and it is read as the message was.
use Rattle.std.specs.Prelude.{ℕ, ◌^◌, ◌≤◌, ◌<◌, ◌≡◌, Bool, true, false, List, get_or}
use Rattle.answers.specs.Answer.{Done, BadField}
use Rattle.wire.specs.Limits.{stamp_end}
use Rattle.wire.specs.Messages.{enter_order, replace_order, cancel_order, modify_order}
use Rattle.inbound.specs.Inbound.{enter_order_of, replace_order_of, cancel_order_of, modify_order_of}
use Rattle.purge.specs.Purge.{mass_cancel, disable, enable, mass_cancel_of, order_entry_of}
use Rattle.tape.specs.Kinds.{kind_of}
use Rattle.tape.specs.declared.kinds.Kind.TheVariants.{Enters, Replaces, Cancels, Modifies, Purges, Disables, Enables}
use Rattle.tape.specs.Entries.{entry_answer, stamp_of, enter_of, replace_of, cancel_of, modify_of, purge_of, blocking_of}
use Rattle.stamping.specs.Stamping.{heard, entry_for}

-- the entry e, made of a stamp
pub record Judged (stamp : ℕ) (e : List ℕ) : Type 0 where
  pub stamped : stamp_of e ≡ stamp
  pub done : stamp < stamp_end → entry_answer e ≡ Done
  pub bad-stamp : stamp_end ≤ stamp → entry_answer e ≡ BadField 1

-- .. and of a client's message m
pub record TellsClient (m e : List ℕ) : Type 0 where
  pub enters : get_or m 0 0 ≡ enter_order.code → (kind_of e ≡ Enters) × (enter_of e ≡ enter_order_of m)
  pub replaces : get_or m 0 0 ≡ replace_order.code → (kind_of e ≡ Replaces) × (replace_of e ≡ replace_order_of m)
  pub cancels : get_or m 0 0 ≡ cancel_order.code → (kind_of e ≡ Cancels) × (cancel_of e ≡ cancel_order_of m)
  pub modifies : get_or m 0 0 ≡ modify_order.code → (kind_of e ≡ Modifies) × (modify_of e ≡ modify_order_of m)

-- .. or of the purge port's
pub record TellsPurge (m e : List ℕ) : Type 0 where
  pub purges : get_or m 0 0 ≡ mass_cancel.code
      → (kind_of e ≡ Purges) × (((purge_of e).firm ≡ (mass_cancel_of m).firm) × ((purge_of e).symbol ≡ (mass_cancel_of m).symbol))
  pub disables : get_or m 0 0 ≡ disable.code → (kind_of e ≡ Disables) × ((blocking_of e).firm ≡ (order_entry_of {letter = disable.code} m).firm)
  pub enables : get_or m 0 0 ≡ enable.code → (kind_of e ≡ Enables) × ((blocking_of e).firm ≡ (order_entry_of {letter = enable.code} m).firm)

-- of every message that is let through, with every stamp that eight bytes hold
pub record Told : Type 0 where
  pub judged : (purge : Bool) (stamp : ℕ) (m : List ℕ) → heard purge m ≡ Done → stamp < 2 ^ 64 → Judged stamp (entry_for purge stamp m)
  pub client : (stamp : ℕ) (m : List ℕ) → heard false m ≡ Done → TellsClient m (entry_for false stamp m)
  pub purge : (stamp : ℕ) (m : List ℕ) → heard true m ≡ Done → TellsPurge m (entry_for true stamp m)
