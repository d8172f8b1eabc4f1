-- The two numbers and their sum in 64 bits.
use Rattle.std.proofs.Common.{◌≡◌, ◌^◌, ◌≤◌, ℤ, ◌+ℤ◌, subst, ◌∙◌, arith, w64, SFits, to_z, of_z, to_z-of_z}
use lib.Signed.{mag}
use Rattle.posit.specs.Rounding.{over, Rounds}
use Rattle.arithmetic.proofs.Exact.{mag_sum, reals_plus}
use Rattle.arithmetic.proofs.sums.add.Goals as goal

whole : (x y : ℤ) → mag x ≤ 2 ^ 56 → mag y ≤ 2 ^ 56 → to_z w64 (of_z w64 (to_z w64 (of_z w64 x) +ℤ to_z w64 (of_z w64 y))) ≡ x +ℤ y
whole x y h k =
    let first : SFits w64 x = record { sfits = omega arith } in
    let second : SFits w64 y = record { sfits = omega arith } in
    let both : SFits w64 (x +ℤ y) = record { sfits = let m = mag_sum x y (2 ^ 56) h k in omega (arith, m) } in
    simp to_z-of_z

pub returns : goal.returns
returns c =
    let x = c.units_of.ensures in
    let y = c.units_of-2.ensures in
    reals_plus c.args.a c.args.b c.round_units.result c.if-a-eq32768.false c.if-b-eq32768.false
    (subst (λ (z : ℤ). Rounds 1 16 (over z 28) c.round_units.result)
    (whole c.units_of.result c.units_of-2.result x.at_most y.at_most ∙ (λ i. x.value i +ℤ y.value i)) c.round_units.ensures)
