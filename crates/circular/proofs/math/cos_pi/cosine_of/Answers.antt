-- `circular::math::cos_pi::cosine_of` meets its contract: row 6 with the sign of the quadrant.
use Rattle.std.proofs.Common.{◌+◌, ◌%◌, leb}
use Rattle.circular.specs.CosPi.{unsigned, cosine}
use Rattle.circular.proofs.Rows.Quadrants.{quadrant_sign}
use Rattle.circular.proofs.math.cos_pi.cosine_of.Goals as goal

pub returns : goal.returns
unfolding cosine
returns c =
    let a = c.of-angle in
    let u = c.unsigned_cosine in
    quadrant_sign (λ q. leb 2 ((q + 1) % 4)) unsigned c.args.x
    a.result.quadrant a.result.rest u.result c.signed_sided.result a.ensures.0 a.ensures.1 u.ensures c.signed_sided.ensures
