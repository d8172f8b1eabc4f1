-- No logarithm where the number is not above zero, and else row 3's.
use Rattle.std.proofs.Common.{rules, ◌≡◌, ⊎_elim, ◌+◌, ◌*◌, ◌/◌, ◌^◌, cond, ltb, pos, refl, arith, lt-ltb, le-ltb}
use Rattle.posit.specs.Rounding.{over}
use Rattle.logarithm.specs.Ln.{poly, logarithm, natural, otherwise, row}
use Rattle.logarithm.proofs.Rows.Logarithms.{Logarithmic, at_zero, at_nar_or_minus, at_plus}
use Rattle.logarithm.proofs.math.ln.ln_sided.Goals as goal
use Rattle.logarithm.proofs.math.ln.ln_sided.Goals.{then-negative, else-negative}

logarithmic : Logarithmic otherwise poly (2 ^ 30) (2 ^ 30 * 28) natural (λ b d. over (pos (d * cond b 186065280 186065279 / 2 ^ 28)) 30)
unfolding logarithm
logarithmic = record { to_nar = refl; to_zero = refl; to_minus = λ k. refl; to_plus = λ k. refl; of_plus = λ d. refl; of_minus = λ d. refl }

pub returns-then-p-eq0 : goal.returns-then-p-eq0
unfolding row
returns-then-p-eq0 c = rw (⊎_elim (at_zero logarithmic c.args.p) (λ w. at_nar_or_minus logarithmic c.args.p w.1) c.then-p-eq0.either) (search rules)

pub returns : goal.returns
unfolding row
returns c =
    let d = c.decode-d in
    let scale : c.if-negative.scale ≡ cond (ltb (d.result.power * 2 ^ 30 + c.ln_poly.result) (2 ^ 30 * 28)) 186065280 186065279 =
    elim c.if-negative.branch [
      | then-negative w ↦ rw (lt-ltb _ _ w.if-negative.true) w.scale-is
      | else-negative w ↦ rw (le-ltb _ _ w.if-negative.false) w.scale-is
    ] in
    at_plus logarithmic c.round_sided.result (omega arith) (omega arith) d.ensures
    c.ln_poly.ensures.value c.abs_diff-size.ensures (rw scale at c.round_sided.ensures) c.signed_sided.ensures
