-- Each return is the layout that the type says. Assumes nothing.
use Rattle.octets.proofs.Proving.{◌∙◌, sym}
use Rattle.wire.specs.Messages.{outbound}
use Rattle.echo.proofs.Laws.{refl, known, unknown}
use Rattle.echo.proofs.from_host.echo_outbound.Goals as goal

pub returns-in-83 : goal.returns-in-83
returns-in-83 c = known outbound _ _ (sym c.first_byte-letter.ensures ∙ c.in-83.is) refl c.echo_as.ensures

pub returns-in-65 : goal.returns-in-65
returns-in-65 c = known outbound _ _ (sym c.first_byte-letter.ensures ∙ c.in-65.is) refl c.echo_as-in-65.ensures

pub returns-in-85 : goal.returns-in-85
returns-in-85 c = known outbound _ _ (sym c.first_byte-letter.ensures ∙ c.in-85.is) refl c.echo_as-in-85.ensures

pub returns-in-67 : goal.returns-in-67
returns-in-67 c = known outbound _ _ (sym c.first_byte-letter.ensures ∙ c.in-67.is) refl c.echo_as-in-67.ensures

pub returns-in-68 : goal.returns-in-68
returns-in-68 c = known outbound _ _ (sym c.first_byte-letter.ensures ∙ c.in-68.is) refl c.echo_as-in-68.ensures

pub returns-in-69 : goal.returns-in-69
returns-in-69 c = known outbound _ _ (sym c.first_byte-letter.ensures ∙ c.in-69.is) refl c.echo_as-in-69.ensures

pub returns-in-66 : goal.returns-in-66
returns-in-66 c = known outbound _ _ (sym c.first_byte-letter.ensures ∙ c.in-66.is) refl c.echo_as-in-66.ensures

pub returns-in-74 : goal.returns-in-74
returns-in-74 c = known outbound _ _ (sym c.first_byte-letter.ensures ∙ c.in-74.is) refl c.echo_as-in-74.ensures

pub returns-in-80 : goal.returns-in-80
returns-in-80 c = known outbound _ _ (sym c.first_byte-letter.ensures ∙ c.in-80.is) refl c.echo_as-in-80.ensures

pub returns-in-73 : goal.returns-in-73
returns-in-73 c = known outbound _ _ (sym c.first_byte-letter.ensures ∙ c.in-73.is) refl c.echo_as-in-73.ensures

pub returns-in-84 : goal.returns-in-84
returns-in-84 c = known outbound _ _ (sym c.first_byte-letter.ensures ∙ c.in-84.is) refl c.echo_as-in-84.ensures

pub returns-in-77 : goal.returns-in-77
returns-in-77 c = known outbound _ _ (sym c.first_byte-letter.ensures ∙ c.in-77.is) refl c.echo_as-in-77.ensures

pub returns-in_default : goal.returns-in_default
returns-in_default c = unknown outbound _ _ (rw c.first_byte-letter.ensures at c.in_default.in_default-own.rest)
