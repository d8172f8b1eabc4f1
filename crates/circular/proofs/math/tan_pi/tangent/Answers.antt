-- `circular::math::tan_pi::tangent` meets its contract: row 7 by the remainder.
use Rattle.std.proofs.Common.{◌≡◌, ◌%◌, ◌^◌, mod-eq_of_lt, arith}
use Rattle.circular.proofs.Rows.TanPi.{by_half}
use Rattle.circular.proofs.math.tan_pi.tangent.Goals as goal

pub returns-in_default : goal.returns-in_default
returns-in_default c =
    let k = c.tan_poly-k in
    let u = c.round_sided-size in
    let e : k.result % 2 ^ 49 ≡ k.result = mod-eq_of_lt k.ensures.upper_bound in
    rw c.signed_sided.ensures
    (by_half c.args.r (λ e. omega arith) (λ e. omega arith) (λ e. omega arith) (λ e. omega arith) k.result
    u.result (rw e at u.ensures) c.requires c.of-angle.ensures.0 c.of-angle.ensures.1 c.reflected.ensures k.ensures.value)
