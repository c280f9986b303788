-- The check of w, d and n (Ask 5): the firm must be listed.
use Rattle.std.specs.Prelude.{ℕ, not, List}
use Rattle.octets.specs.Choice.{first_of◌, ◌⇒◌⨾◌}
use Rattle.header.specs.Firms.{is_listed}
use Rattle.rules.specs.Plan.{refused}
use Rattle.risk.specs.Types.{UnlistedFirm, Header, Decision}

-- else 15, right after 4. A blank firm means no other here, and never is listed
unfoldable pub of_listed : Header → List ℕ → Decision → Decision
of_listed h firm d =
    first_of
    not (is_listed h firm) ⇒ refused UnlistedFirm
    ⨾ d
