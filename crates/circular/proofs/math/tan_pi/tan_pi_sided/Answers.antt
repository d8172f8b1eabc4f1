-- `circular::math::tan_pi::tan_pi_sided` meets its contract: row 7, whose cases are those of a row by sign.
use Rattle.std.proofs.Common.{Bool, cond, ap, ◌∙◌, arith}
use Rattle.posit.specs.Sides.{negated_sided}
use Rattle.rows.proofs.Sizes.{sign_bit, size_by_bit}
use Rattle.circular.specs.TanPi.{row}
use Rattle.circular.proofs.Rows.Odd.{nar_itself, whole-or-zero, sign-back}
use Rattle.circular.proofs.Rows.TanPi.{tangent_odd}
use Rattle.circular.proofs.math.tan_pi.tan_pi_sided.Goals as goal

pub returns-then-p-eq32768 : goal.returns-then-p-eq32768
unfolding row
returns-then-p-eq32768 c = rw c.outright.ensures (nar_itself tangent_odd c.args.p c.if-p-eq32768.true)

pub returns-then-size-gt31743 : goal.returns-then-size-gt31743
unfolding row
returns-then-size-gt31743 c =
    let s = c.signed-size in
    rw c.outright-then-size-gt31743.ensures
    (whole-or-zero tangent_odd c.args.p (omega arith) s.result (s.ensures ∙ size_by_bit c.args.p) c.if-p-eq32768.false
    c.then-size-gt31743.either)

pub returns : goal.returns
unfolding row
returns c =
    let p = c.args.p in
    let s = c.signed-size in
    let u = c.tangent.result in
    sign-back tangent_odd p (omega arith) s.result (s.ensures ∙ size_by_bit p) c.if-p-eq32768.false c.if-size-gt31743.false
    c.if-size-eq0.false c.units.result u c.signed_sided.result c.units.ensures c.tangent.ensures
    (c.signed_sided.ensures ∙ ap (λ (b : Bool). cond b (negated_sided u) u) (sign_bit p c.if-p-eq32768.false))
