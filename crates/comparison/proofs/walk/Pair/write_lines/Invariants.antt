-- the lines of the places before the place reached are written, which differs where it is not the end
use Rattle.std.proofs.Common.{◌-◌}
use Rattle.comparison.proofs.Walking.{Reached}
use Rattle.comparison.proofs.walk.Pair.write_lines.Given as goal

abbrev pub invariant-loop-place : goal.invariant-loop-place
invariant-loop-place l = Reached l.self.first.now l.self.second.now l.self.functions l.self.patterns l.short l.initial.output l.place l.at l.output

abbrev pub decreases-loop-place : goal.decreases-loop-place
decreases-loop-place l = l.count - l.place
