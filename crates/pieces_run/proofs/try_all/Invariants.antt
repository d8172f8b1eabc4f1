-- What is left of the steps is the measure.
use Rattle.std.proofs.Common.{length}
use Rattle.pieces_run.proofs.try_all.Given as goal

abbrev pub decreases-loop-left : goal.decreases-loop-left
decreases-loop-left g l = length l.left
