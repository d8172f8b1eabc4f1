-- A difference is the sum with the opposite.
use Rattle.std.proofs.Common.{ℕ, subst, arith}
use Rattle.rows.specs.Rows.{Meets}
use Rattle.arithmetic.specs.Operations.{sum}
use Rattle.arithmetic.proofs.Opposites.{difference_is}
use Rattle.arithmetic.proofs.sums.subtract.Goals as goal

pub returns : goal.returns
returns c =
    rw (difference_is c.args.a c.args.b (omega arith))
    (subst (λ (n : ℕ). Meets (sum c.args.a n) c.add.result) c.negate.ensures.value c.add.ensures)
