-- `circular::math::sin_pi::sine_of` meets its contract: row 5 with the sign of the quadrant.
use Rattle.std.proofs.Common.{leb}
use Rattle.circular.specs.SinPi.{unsigned, sine}
use Rattle.circular.proofs.Rows.Quadrants.{quadrant_sign}
use Rattle.circular.proofs.math.sin_pi.sine_of.Goals as goal

pub returns : goal.returns
unfolding sine
returns c =
    let a = c.of-angle in
    let u = c.unsigned_sine in
    quadrant_sign (leb 2) unsigned c.args.x
    a.result.quadrant a.result.rest u.result c.signed_sided.result a.ensures.0 a.ensures.1 u.ensures c.signed_sided.ensures
