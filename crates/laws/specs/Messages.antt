-- What goes out for an entry: nothing, or one message (Messages and entries; Answer numbers, in order of checking, last sentence).
use Rattle.std.specs.Prelude.{ℕ, ◌≤◌, ◌<◌, ◌≡◌, List, [], length}
use Rattle.answers.specs.Answer.{Done}
use Rattle.wire.specs.Messages.{message_layout, read_answer}
use Rattle.outbox.specs.Limits.{shortest_ring}

-- one of the twelve outbound messages (numbers 4 to 15 of the sixteen), legal for its reader
pub record OneOfTwelve (m : List ℕ) : Type 0 where
  pub number : ℕ
  pub low : 4 ≤ number
  pub high : number < 16
  pub legal : read_answer (message_layout number) m ≡ Done

-- it fits the shortest ring
pub data AtMostOne (m : List ℕ) : Type 0 where
  silent : m ≡ [] → AtMostOne m
  told : OneOfTwelve m → length m ≤ shortest_ring → AtMostOne m
