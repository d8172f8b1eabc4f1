-- `circular::math::sin_pi::sin_pi_sided` meets its contract: row 5, whose cases are those of a row by sign.
use Rattle.std.proofs.Common.{◌≡◌, Bool, cond, ap, ◌∙◌, arith}
use Rattle.posit.specs.Number.{size}
use Rattle.posit.specs.Sides.{negated_sided}
use Rattle.rows.proofs.Sizes.{sign_bit, size_by_bit}
use Rattle.circular.specs.SinPi.{row}
use Rattle.circular.proofs.Rows.Odd.{by_less, nar_itself, whole-or-zero, sign-back}
use Rattle.circular.proofs.Rows.SinPi.{sine-odd}
use Rattle.circular.proofs.math.sin_pi.sin_pi_sided.Goals as goal
use Rattle.circular.proofs.math.sin_pi.sin_pi_sided.Goals.{then-p-eq32768, else-p-eq32768}

pub returns-then-size-gt31742 : goal.returns-then-size-gt31742
unfolding row
returns-then-size-gt31742 c =
    let p = c.args.p in
    let s = c.signed-size in
    elim c.if-p-eq32768.branch [
      | then-p-eq32768 w ↦ rw (c.outright.ensures, w.outright-is) (nar_itself sine-odd p w.if-p-eq32768.true)
      | else-p-eq32768 w ↦ rw (c.outright.ensures, w.outright-is)
          (whole-or-zero sine-odd p (omega arith) s.result (s.ensures ∙ size_by_bit p) w.if-p-eq32768.false
          (by_less s.result (omega arith) c.if-size-gt31742.true))
    ]

pub returns : goal.returns
unfolding row
returns c =
    let p = c.args.p in
    let s = c.signed-size in
    let sized : s.result ≡ size 16 p = s.ensures ∙ size_by_bit p in
    let number : p ≡ 0x8000 → ⊥ = λ e. (let q : s.result ≡ 0x8000 = sized ∙ ap (size 16) e in omega arith) in
    let u = c.sine_of in
    let a = c.signed_sided in
    sign-back sine-odd p (omega arith) s.result sized number (omega arith) (λ e. omega arith)
    c.units.result u.result a.result c.units.ensures u.ensures
    (a.ensures ∙ ap (λ (b : Bool). cond b (negated_sided u.result) u.result) (sign_bit p number))
