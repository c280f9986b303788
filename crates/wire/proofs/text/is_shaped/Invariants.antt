-- The text is shaped where what was seen is and the rest may follow it.
use Rattle.octets.proofs.Proving.{◌&&◌, ◌≡◌, drop}
use Rattle.wire.specs.Text.{shaped}
use Rattle.wire.proofs.Shapes.{rest}
use Rattle.wire.proofs.text.is_shaped.Given as goal

abbrev pub invariant-loop-b : goal.invariant-loop-b
invariant-loop-b l = shaped l.s ≡ (l.ok && rest l.blank (drop l.b-index l.rest))
