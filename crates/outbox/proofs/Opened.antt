-- Everything that specs/ defines, open at once, for proofs by computation. Assumes nothing.
use Rattle.outbox.specs.Outbox.{ring_good, free_bytes, from, back, held, put_answer, ring_with, marks_with, read_run, release_answer, marks_without, put_ring, put_marks, release_marks}
use Rattle.outbox.specs.Runs.{in_two_runs}
use Rattle.outbox.specs.Place.{read_place}
use Rattle.outbox.specs.Drain.{after_round, drained}

unfoldable pub opened : Unit {0}
unfolding ring_good free_bytes from back held put_answer ring_with marks_with read_run release_answer marks_without put_ring put_marks release_marks in_two_runs read_place after_round drained
opened = tt
