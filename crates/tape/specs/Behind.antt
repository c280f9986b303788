-- What is judged behind an entry's stamp, by kind. This is about inner functions: that each kind's layout judges just this is proved.
use Rattle.std.specs.Prelude.{ℕ, ◌+◌, ◌<◌, ◌≤◌, List, [], ◌∷◌}
use Rattle.wire.specs.Layout.{Field, token_at, liquidity_at, book_reason_at, system_event_at, stock_state_at, limit_price_at}
use Rattle.wire.specs.Messages.{message_layout, number, fields_from}
use Rattle.wire.specs.declared.messages.Message.TheVariants as message
use Rattle.tape.specs.Kinds.{Kind, Enters, Replaces, Cancels, Modifies, Executes, BookCancels, SelfMatches, Prioritises, TurnsLate, EndsCross, TellsDay, SetsStock, Purges, Disables, Enables, Unknown}
pub use Rattle.tape.specs.declared.judging.Behind.{Behind}
pub use Rattle.tape.specs.declared.judging.Behind.TheVariants.{Message, Token, Flag, Reason, Price, Event, State, Nothing}

abbrev pub behind_of : Kind → Behind
behind_of Enters = Message message.EnterOrder
behind_of Replaces = Message message.ReplaceOrder
behind_of Cancels = Message message.CancelOrder
behind_of Modifies = Message message.ModifyOrder
behind_of Executes = Flag 31
behind_of BookCancels = Reason 27
behind_of SelfMatches = Flag 35
behind_of Prioritises = Price
behind_of TurnsLate = Token
behind_of EndsCross = Token
behind_of TellsDay = Event
behind_of SetsStock = State
behind_of Purges = Nothing
behind_of Disables = Nothing
behind_of Enables = Nothing
behind_of Unknown = Nothing

abbrev pub judged_fields : Behind → List Field
judged_fields (Message m) = fields_from 8 (number m)
judged_fields Token = token_at 9 ∷ []
judged_fields (Flag at) = token_at 9 ∷ liquidity_at at ∷ []
judged_fields (Reason at) = token_at 9 ∷ book_reason_at at ∷ []
judged_fields Price = token_at 9 ∷ limit_price_at 23 ∷ []
judged_fields Event = system_event_at 9 ∷ []
judged_fields State = stock_state_at 17 ∷ []
judged_fields Nothing = []

-- they lie in an entry of n bytes
abbrev pub Within : Behind → ℕ → Type 0
Within (Message m) n = (number m < 4) × ((message_layout (number m)).size + 8 ≤ n)
Within Token n = 23 ≤ n
Within (Flag at) n = (23 ≤ n) × (at < n)
Within (Reason at) n = (23 ≤ n) × (at < n)
Within Price n = 27 ≤ n
Within Event n = 9 < n
Within State n = 17 < n
Within Nothing n = Unit {0}
