-- The two numbers, taken apart, and their product.
use Rattle.std.proofs.Common.{◌≡◌, ℕ, ◌+◌, ◌*◌, ◌%◌, ◌≤◌, ℤ, pos, negsuc, ◌-ℤ◌, ◌*ℤ◌, subst, arith, w32, to_z, of_z}
use Rattle.std.proofs.lemmas.Int.{ints}
use mathlib.Core.Path.{subst⁻¹}
use lib.Dec.{ltb}
use lib.Ieee.{unlike}
use Rattle.posit.specs.Rounding.{Known, dyadic, over, Rounds}
use Rattle.arithmetic.specs.Sizes.{units_in, signed_units}
use Rattle.arithmetic.proofs.Exact.{times, rounds_signed, product-scaled, reals_times}
use Rattle.arithmetic.proofs.products.multiply.Goals as goal

-- the sum of the two powers, and that less 80, in 32 bits
power : (n : ℕ) → n ≤ 114 → to_z w32 (of_z w32 (to_z w32 (n % 128) -ℤ pos 80)) ≡ pos n -ℤ pos 80
power n few = omega (arith, ints)

pub returns : goal.returns
returns c =
    let a = c.args.a in
    let b = c.args.b in
    let s = c.of-s.result in
    let t = c.of-t.result in
    let r = c.round.result in
    let p = ltb 0x8000 a in
    let q = ltb 0x8000 b in
    let exact : dyadic (pos (s.significand * t.significand)) (pos (s.power + t.power) -ℤ pos 80) ≡ over (pos (units_in a * units_in b)) 56 =
    product-scaled (units_in a) (units_in b) s.significand t.significand s.power t.power c.of-s.ensures.value c.of-t.ensures.value in
    let rounded =
    subst (λ (e : ℤ). Rounds 1 16 (dyadic (pos (s.significand * t.significand)) e) r)
    (power (s.power + t.power) (omega (arith, c.of-s.ensures.few, c.of-t.ensures.few)))
    c.round.ensures in
    reals_times a b c.signed.result c.if-a-eq32768.false c.if-b-eq32768.false
    (subst⁻¹ (λ (u : ℕ). Rounds 1 16 (over (signed_units a *ℤ signed_units b) 56) u) c.signed.ensures
    (rw (times p q (units_in a) (units_in b))
    (rounds_signed (unlike p q) (units_in a * units_in b) (negsuc 55) r (subst (λ (x : Known). Rounds 1 16 x r) exact rounded))))
