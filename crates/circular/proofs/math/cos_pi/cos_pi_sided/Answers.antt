-- `circular::math::cos_pi::cos_pi_sided` meets its contract: NaR, zero, and else the cosine of the magnitude.
use Rattle.std.proofs.Common.{◌≡◌, ℕ, refl, ap, ◌∙◌, subst, ⊎_elim, arith}
use Rattle.posit.specs.Number.{magnitude}
use Rattle.rows.specs.Rows.{MeetsSided}
use Rattle.circular.specs.CosPi.{cosine}
use Rattle.rows.proofs.Sizes.{low-zero, low_some}
use Rattle.circular.proofs.Rows.CosPi.{nar_itself, zero_one, by_magnitude}
use Rattle.circular.proofs.math.cos_pi.cos_pi_sided.Goals as goal
use Rattle.circular.proofs.math.cos_pi.cos_pi_sided.Goals.{then-p-eq0, else-p-eq0}

pub returns-then-size-eq0 : goal.returns-then-size-eq0
returns-then-size-eq0 c =
    let p = c.args.p in
    elim c.if-p-eq0.branch [
      | then-p-eq0 w ↦ rw (c.outright.ensures, w.outright-is, w.if-p-eq0.true, zero_one) (refl, refl)
      | else-p-eq0 w ↦ ⊎_elim
          (λ e. absurd (w.if-p-eq0.false e))
          (λ (e : p ≡ 0x8000). rw (c.outright.ensures, w.outright-is, e, nar_itself) (refl, refl))
          (low-zero p (omega arith) (rw c.signed-size.ensures at c.if-size-eq0.true))
    ]

pub returns : goal.returns
returns c =
    let p = c.args.p in
    let u = c.cosine_of in
    let some = low_some p (rw c.signed-size.ensures at c.if-size-eq0.false) in
    rw (by_magnitude p some.0 some.1)
    (subst (λ (y : ℕ). MeetsSided (cosine y) u.result) (c.units.ensures ∙ ap (magnitude 1 16) c.signed-size.ensures)
    u.ensures)
