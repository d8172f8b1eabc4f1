-- x is not below the root, and its square fits. Each step goes down.
use Rattle.std.proofs.Common.{◌+◌, ◌*◌, ◌^◌, ◌<◌}
use Rattle.arc.proofs.kernel.isqrt.Given as goal

abbrev pub invariant-loop-x : goal.invariant-loop-x
invariant-loop-x l = (l.x < 2 ^ 29) × (l.f < (l.x + 1) * (l.x + 1))

abbrev pub decreases-loop-x : goal.decreases-loop-x
decreases-loop-x l = l.x
