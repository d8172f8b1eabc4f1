-- The magnitude is rounded, and the sign put back.
use Rattle.std.proofs.Common.{ℤ, pos, negsuc, nat_abs, cond, subst, to_z-of_z}
use lib.Signed.{lt_z}
use Rattle.posit.specs.Number.{opposite}
use Rattle.posit.specs.Rounding.{over, Rounds}
use Rattle.arithmetic.proofs.Exact.{rounds_signed, signed_abs}
use Rattle.arithmetic.proofs.sums.round_units.Goals as goal

pub returns : goal.returns
returns c =
    let v = c.args.v in
    let size = rw (to_z-of_z c.ranges.v) at c.unsigned_abs.ensures.value in
    let rounded = rw size at c.round.ensures in
    let negative = lt_z v (pos 0) in
    let r = c.round.result in
    rw (c.signed.ensures, to_z-of_z c.ranges.v)
    (subst (λ (z : ℤ). Rounds 1 16 (over z 28) (cond negative (opposite 16 r) r)) (signed_abs v) (rounds_signed negative (nat_abs v) (negsuc 27) r rounded))
