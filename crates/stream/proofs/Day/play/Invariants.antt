-- The pieces that are left are the measure. Assumes nothing.
use Rattle.stream.proofs.Day.play.Given as goal

abbrev pub decreases-loop-feed : goal.decreases-loop-feed
decreases-loop-feed l = l.feed.left
