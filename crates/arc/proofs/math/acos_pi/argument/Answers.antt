-- From 1/2 on the root of what the magnitude leaves of 1 is as small as a magnitude within 1/2.
use Rattle.std.proofs.Common.{arith}
use Rattle.std.proofs.lemmas.Bool.{lt-ltb, le-ltb}
use Rattle.arc.proofs.Roots.{root_of_rest}
use Rattle.rows.proofs.Sizes.{to_half, from_half, to_one}
use Rattle.arc.proofs.math.acos_pi.argument.Goals as goal

pub returns-then-size-lt12288-clause-value : goal.returns-then-size-lt12288-clause-value
returns-then-size-lt12288-clause-value c = rw (le-ltb 0x2fff c.args.size (omega arith)) c.units-x.ensures

pub returns-then-size-lt12288-clause-upper_bound : goal.returns-then-size-lt12288-clause-upper_bound
returns-then-size-lt12288-clause-upper_bound c = rw c.units-x.ensures (to_half c.args.size (omega arith) (omega arith))

pub overflow_sub-x : goal.overflow_sub-x
overflow_sub-x c = rw c.units-x.ensures (to_one c.args.size (omega arith) (omega arith))

pub returns-clause-value : goal.returns-clause-value
returns-clause-value c =
    rw (lt-ltb 0x2fff c.args.size (omega arith))
    (root_of_rest c.units-x.ensures (from_half c.args.size (omega arith) (omega arith)) c.isqrt.ensures).0

pub returns-clause-upper_bound : goal.returns-clause-upper_bound
returns-clause-upper_bound c = (root_of_rest c.units-x.ensures (from_half c.args.size (omega arith) (omega arith)) c.isqrt.ensures).1
