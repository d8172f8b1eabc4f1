-- 0 and NaR are themselves, and else the angle of the magnitude is rounded.
use Rattle.std.proofs.Common.{◌≡◌, ℕ, ◌%◌, ◌^◌, ⊎_elim, refl, ap, ◌∙◌, mod-eq_of_lt, arith}
use Rattle.posit.specs.Number.{magnitude, size}
use Rattle.arc.specs.AtanPi.{quotient}
use Rattle.rows.proofs.Sizes.{sign_bit, size_by_bit, proper, low-zero, low_some}
use Rattle.arc.proofs.Rows.AtanPi.{zero_itself, nar_itself, by_quotient}
use Rattle.arc.proofs.math.atan_pi.atan_pi_sided.Goals as goal

pub returns-then-size-eq0 : goal.returns-then-size-eq0
returns-then-size-eq0 c =
    let p = c.args.p in
    rw c.outright.ensures
    (⊎_elim (λ (e : p ≡ 0). rw e zero_itself) (λ (e : p ≡ 0x8000). rw (e, nar_itself) (refl, refl))
    (low-zero p (omega arith) (rw (c.signed-size.ensures ∙ size_by_bit p) at c.if-size-eq0.true)))

pub angle-k-requires : goal.angle-k-requires
angle-k-requires c =
    let p = c.args.p in
    let e = c.signed-size.ensures ∙ size_by_bit p in
    let k = low_some p (rw e at c.if-size-eq0.false) in
    rw e (let s = proper p k.0 (omega arith) k.1 in (omega arith, omega arith))

pub returns : goal.returns
returns c =
    let p = c.args.p in
    let s = c.signed-size.ensures ∙ size_by_bit p in
    let k = low_some p (rw s at c.if-size-eq0.false) in
    let e : c.angle-k.result.units % 2 ^ 30 ≡ quotient (size 16 p) (magnitude 1 16 (size 16 p)) =
    mod-eq_of_lt (omega arith) ∙ c.angle-k.ensures
    ∙ ap (λ (u : ℕ). quotient u (magnitude 1 16 u)) s in
    rw c.signed_sided.ensures
    (rw (← sign_bit p k.1) at (by_quotient p c.round_sided.result k.0 (omega arith) k.1 (rw e at c.round_sided.ensures)))
