-- A letter more is a comparison more. Assumes nothing.
use Rattle.octets.proofs.Proving.{Bool, ◌||◌, ◌∙◌, ap, arith, eqb, get_or, refl, sym}
use Rattle.wire.proofs.Gathered.{one_of, gathered, all-gathered}
use Rattle.wire.proofs.letters.is_among.Goals as goal

pub loop-letter-init : goal.loop-letter-init
unfolding one_of
loop-letter-init g c = refl

pub loop-letter-preserved : goal.loop-letter-preserved
loop-letter-preserved g c =
    let xs = c.args.letters in
    let l = c.loop-letter in
    ap (λ (t : Bool). t || eqb c.args.b (get_or xs l.letter-index 0)) l.invariant ∙ sym (gathered xs l.letter-index c.args.b (omega arith))

pub returns : goal.returns
returns g c =
    let l = c.loop-letter in
    λ set e. l.invariant ∙ all-gathered c.args.letters l.letter-index c.args.b (omega arith) set e
