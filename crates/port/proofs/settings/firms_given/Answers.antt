-- Place by place. Assumes nothing.
use Rattle.port.specs.Door.{firms_given}
use Rattle.port.proofs.settings.firms_given.Goals as goal

pub returns : goal.returns
unfolding firms_given
returns c =
    rw (
      c.firm_given-8.ensures,
      c.firm_given-7.ensures,
      c.firm_given-6.ensures,
      c.firm_given-5.ensures,
      c.firm_given-4.ensures,
      c.firm_given-3.ensures,
      c.firm_given-2.ensures,
      c.firm_given.ensures,
    )
