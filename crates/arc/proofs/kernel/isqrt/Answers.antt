-- The start is the step from 2 ^ 27, and a step is taken only from above the root.
use Rattle.std.proofs.Common.{◌/◌, ◌^◌, ◌<◌, arith, lit<}
use Rattle.arc.proofs.Roots.{not_below, quotient_less}
use Rattle.arc.proofs.kernel.isqrt.Goals as goal

pub loop-x-init : goal.loop-x-init
loop-x-init c = (omega arith, not_below _ (2 ^ 27) _ (lit< tt) (omega arith))

pub loop-x-preserved : goal.loop-x-preserved
loop-x-preserved c =
    let l : (0 < c.loop-x.x) × (c.args.f / c.loop-x.x < c.loop-x.x) = quotient_less _ _ (omega arith) in
    (omega arith, not_below _ c.loop-x.x _ l.0 (omega arith))
