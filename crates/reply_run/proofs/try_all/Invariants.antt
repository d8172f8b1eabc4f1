-- What is left of the cases is the measure.
use Rattle.std.proofs.Common.{length}
use Rattle.reply_run.proofs.try_all.Given as goal

abbrev pub decreases-loop-lengths : goal.decreases-loop-lengths
decreases-loop-lengths g l = length l.rest
