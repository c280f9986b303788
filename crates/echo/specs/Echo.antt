-- Reading a message and writing it back (Messages and entries: readers and writers exist for all sixteen). The message comes back as it was,
-- so what is written is what was read.
use Rattle.std.specs.Prelude.{ℕ, Bool, List, get_or, Option, None, Some}
use Rattle.octets.specs.Choice.{pick}
use Rattle.answers.specs.Answer.{if_done}
use Rattle.answers.specs.Answer.{Answer}
use Rattle.answers.specs.Answer.{Malformed}
use Rattle.wire.specs.Layout.{Layout, layout_for}
use Rattle.wire.specs.Messages.{inbound, outbound, read_answer, write_answer, buffer_after}

-- the reader's answer where it refuses, and otherwise the writer's
unfoldable pub echo_answer : Layout → List ℕ → List ℕ → Answer
echo_answer l s out = if_done (read_answer l s) (write_answer l s out) (read_answer l s)

-- only a message that was read is written
unfoldable pub echoed : Layout → List ℕ → List ℕ → List ℕ
echoed l s out = if_done (read_answer l s) (buffer_after l s out) out

-- the same where the type says which layout it is; a type that none has is 2
abbrev pub answer_for : Option Layout → List ℕ → List ℕ → Answer
answer_for None s out = Malformed
answer_for (Some l) s out = echo_answer l s out

abbrev pub echoed_for : Option Layout → List ℕ → List ℕ → List ℕ
echoed_for None s out = out
echoed_for (Some l) s out = echoed l s out

unfoldable pub answer_among : List Layout → List ℕ → List ℕ → Answer
answer_among ls s out = answer_for (layout_for ls (get_or s 0 0)) s out

unfoldable pub echoed_among : List Layout → List ℕ → List ℕ → List ℕ
echoed_among ls s out = echoed_for (layout_for ls (get_or s 0 0)) s out

abbrev pub message_answer : Bool → List ℕ → List ℕ → Answer
message_answer is_inbound s out = answer_among (pick is_inbound inbound outbound) s out

abbrev pub message_echoed : Bool → List ℕ → List ℕ → List ℕ
message_echoed is_inbound s out = echoed_among (pick is_inbound inbound outbound) s out
