-- No logarithm where the number is not above zero, and else row 4's.
use Rattle.std.proofs.Common.{rules, ◌≡◌, ⊎_elim, ◌*◌, ◌%◌, ◌^◌, pos, refl, mod-eq_of_lt, arith}
use Rattle.posit.specs.Rounding.{over}
use Rattle.logarithm.specs.Log2.{poly, logarithm, otherwise, row}
use Rattle.logarithm.proofs.Rows.Logarithms.{Logarithmic, at_zero, at_nar_or_minus, at_plus}
use Rattle.logarithm.proofs.math.log2.log2_sided.Goals as goal

logarithmic : Logarithmic otherwise poly (2 ^ 28) (2 ^ 28 * 28) (λ z. over z 28) (λ b d. over (pos d) 28)
unfolding logarithm
logarithmic = record { to_nar = refl; to_zero = refl; to_minus = λ k. refl; to_plus = λ k. refl; of_plus = λ d. refl; of_minus = λ d. refl }

pub returns-then-p-eq0 : goal.returns-then-p-eq0
unfolding row
returns-then-p-eq0 c = rw (⊎_elim (at_zero logarithmic c.args.p) (λ w. at_nar_or_minus logarithmic c.args.p w.1) c.then-p-eq0.either) (search rules)

pub returns : goal.returns
unfolding row
returns c =
    let d = c.decode-d in
    let w : d.result.power % 64 ≡ d.result.power = mod-eq_of_lt (let h = d.ensures.few in omega arith) in
    at_plus logarithmic c.round_sided.result (omega arith) (omega arith) (rw w d.ensures)
    c.log2_poly.ensures.value c.abs_diff-size.ensures c.round_sided.ensures c.signed_sided.ensures
