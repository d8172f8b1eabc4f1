-- Past 1 and -1 the answer is NaR, near zero a quarter turn, and else the angle is rounded.
use Rattle.std.proofs.Common.{arith, rules}
use Rattle.arc.proofs.Rows.AcosPi.{past_one, near_zero, by_arc}
use Rattle.arc.proofs.math.acos_pi.acos_pi_sided.Goals as goal

pub returns-then-p-lt49152 : goal.returns-then-p-lt49152
returns-then-p-lt49152 c = rw (past_one c.args.p (omega arith) (omega arith)) (search rules)

pub returns-then-p-lt165 : goal.returns-then-p-lt165
returns-then-p-lt165 c = rw (near_zero c.args.p c.then-p-lt165.either) (search rules)

pub returns : goal.returns
returns c =
    by_arc c.args.p c.round_sided.result (omega arith) (omega arith) (search rules) (rw c.angle.ensures at c.round_sided.ensures)
