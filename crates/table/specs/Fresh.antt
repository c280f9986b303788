-- The fresh call (Table and outbox): threshold and 1 to 8 firms in, a table with nothing in it out.
use Rattle.std.specs.Prelude.{ℕ, not, List, length}
use Rattle.octets.specs.Choice.{first_of◌, ◌⇒◌⨾◌}
use Rattle.octets.specs.Bytes.{zeros}
use Rattle.answers.specs.Answer.{if_done}
use Rattle.answers.specs.Answer.{Answer}
use Rattle.answers.specs.Answer.{Done, NotSound, BadField}
use Rattle.header.specs.Settings.{settings_good, fresh_header}
use Rattle.header.specs.declared.settings.Settings.{Settings}
use Rattle.table.specs.Table.{size_good, store_header}

-- it refuses a bad length with 10, then bad settings with 3, which are no bytes: its place is 0 whatever it answers (Ask 1)
unfoldable pub fresh_answer : List ℕ → Settings → Answer
fresh_answer t s =
    first_of
    not (size_good t) ⇒ NotSound
    ⨾ not (settings_good s) ⇒ BadField 0
    ⨾ Done

-- it writes day 0, used 0, stamp 0, reference 1, these settings, and zeros elsewhere
unfoldable pub fresh_table : List ℕ → Settings → List ℕ
fresh_table t s = if_done (fresh_answer t s) (store_header (zeros (length t)) (fresh_header s)) t
