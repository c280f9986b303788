-- Each return is the layout that the type says. Assumes nothing.
use Rattle.octets.proofs.Proving.{◌∙◌, sym}
use Rattle.wire.specs.Messages.{inbound}
use Rattle.echo.proofs.Laws.{refl, known, unknown}
use Rattle.echo.proofs.from_client.echo_inbound.Goals as goal

pub returns-in-79 : goal.returns-in-79
returns-in-79 c = known inbound _ _ (sym c.first_byte-letter.ensures ∙ c.in-79.is) refl c.echo_as.ensures

pub returns-in-85 : goal.returns-in-85
returns-in-85 c = known inbound _ _ (sym c.first_byte-letter.ensures ∙ c.in-85.is) refl c.echo_as-in-85.ensures

pub returns-in-88 : goal.returns-in-88
returns-in-88 c = known inbound _ _ (sym c.first_byte-letter.ensures ∙ c.in-88.is) refl c.echo_as-in-88.ensures

pub returns-in-77 : goal.returns-in-77
returns-in-77 c = known inbound _ _ (sym c.first_byte-letter.ensures ∙ c.in-77.is) refl c.echo_as-in-77.ensures

pub returns-in_default : goal.returns-in_default
returns-in_default c = unknown inbound _ _ (rw c.first_byte-letter.ensures at c.in_default.in_default-own.rest)
