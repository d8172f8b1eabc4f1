-- Below 1/2 the polynomial takes x, from there on a root that is as small.
use Rattle.std.proofs.Common.{refl, arith}
use Rattle.arc.proofs.Roots.{root_of_rest}
use Rattle.rows.proofs.Sizes.{to_half, from_half, to_one}
use Rattle.arc.proofs.Rows.AsinPi.{arc-below_half, arc_from_half}
use Rattle.arc.proofs.math.asin_pi.angle.Goals as goal

pub asin_poly-requires : goal.asin_poly-requires
asin_poly-requires c = rw c.units-x.ensures (to_half c.args.size (omega arith) (omega arith))

pub returns-then-size-lt12288 : goal.returns-then-size-lt12288
returns-then-size-lt12288 c =
    rw (c.asin_poly.ensures.value, c.units-x.ensures, arc-below_half c.args.size _ (omega arith)) refl

pub overflow_sub-x : goal.overflow_sub-x
overflow_sub-x c = rw c.units-x.ensures (to_one c.args.size (omega arith) (omega arith))

pub asin_poly-requires-2 : goal.asin_poly-requires-2
asin_poly-requires-2 c = (root_of_rest c.units-x.ensures (from_half c.args.size (omega arith) (omega arith)) c.isqrt.ensures).1

pub returns : goal.returns
returns c =
    let e = (root_of_rest c.units-x.ensures (from_half c.args.size (omega arith) (omega arith)) c.isqrt.ensures).0 in
    rw (c.asin_poly-2.ensures.value, e, arc_from_half c.args.size _ (omega arith)) refl
