-- The fields are put one by one, in the layout's order. Assumes nothing.
use Rattle.outbound.proofs.Codec.{◌then◌, ends}
use Rattle.outbound.proofs.stated.put_stated.Goals as goal

pub returns : goal.returns
returns state =
    let capacity = state in
    let time = capacity in
    time.put_letter.ensures
    then time.put_integer.ensures then time.put_text.ensures
    then time.put_integer-2.ensures then time.put_integer-3.ensures
    then capacity.put_text-2.ensures
    then capacity.put_letter-2.ensures then capacity.put_long.ensures
    then capacity.put_letter-3.ensures then state.put_letter-4.ensures
    then state.put_integer-4.ensures then state.put_letter-5.ensures
    then state.put_letter-6.ensures then ends
