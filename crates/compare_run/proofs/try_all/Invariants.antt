-- What is left of the cases is the measure.
use Rattle.std.proofs.Common.{length}
use Rattle.compare_run.proofs.try_all.Given as goal

abbrev pub decreases-loop-head : goal.decreases-loop-head
decreases-loop-head g l = length l.rest
