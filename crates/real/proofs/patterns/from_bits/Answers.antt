-- By the fields of the bits.
use Rattle.std.proofs.Common.{◌≡◌, ℕ, ◌+◌, ◌/◌, ◌%◌, ◌<◌, ◌≤◌, ℤ, pos, ◌-ℤ◌, ap, ◌∙◌, subst, arith, to_z-of_z, w32, FitsSigned, to_z}
use mathlib.Core.Path.{subst⁻¹}
use lib.IntN.{sub_ℕ}
use lib.Ieee.{binary64, of_bits}
use mir.Facts.{to_z_pos}
use Rattle.posit.specs.Rounding.{dyadic, Rounds}
use Rattle.real.specs.Reals.{FromF64}
use Rattle.real.proofs.Bits.{power, at_ones, at_zero, at_other}
use Rattle.real.proofs.patterns.from_bits.Goals as goal

pub returns-then-field-eq2047 : goal.returns-then-field-eq2047
returns-then-field-eq2047 c = at_ones c.args.bits c.if-field-eq2047.true

pub returns-then-field-eq0 : goal.returns-then-field-eq0
returns-then-field-eq0 c =
    let b = c.args.bits in
    subst⁻¹ (λ (p : ℕ). FromF64 (of_bits binary64 b) p) c.signed.ensures (at_zero b c.round.result c.if-field-eq0.true c.round.ensures)

-- a field f, cast to i32, less 1075
less : (f : ℕ) → f < 2048 → to_z w32 f -ℤ pos 1075 ≡ sub_ℕ f 1075
less f h = ap (λ (z : ℤ). z -ℤ pos 1075) (to_z_pos w32 {n = f} (omega arith))

less_fits : (f : ℕ) → 1 ≤ f → f < 2048 → FitsSigned w32 (to_z w32 f -ℤ pos 1075)
less_fits f l h = rw (less f h) (record { sfits = (power f l h).small })

pub returns : goal.returns
returns c =
    let b = c.args.bits in
    let f : ℕ = b % 0x8000_0000_0000_0000 / 0x10_0000_0000_0000 in
    let some : 1 ≤ f = omega (arith, c.if-field-eq0.false) in
    let most : f < 2048 = omega arith in
    subst⁻¹ (λ (p : ℕ). FromF64 (of_bits binary64 b) p) c.signed-2.ensures
    (at_other b c.round-2.result (sub_ℕ f 1075) c.if-field-eq2047.false c.if-field-eq0.false (power f some most).counts
    (subst (λ (e : ℤ). Rounds 1 16 (dyadic (pos (0x10_0000_0000_0000 + b % 0x10_0000_0000_0000)) e) c.round-2.result)
    (to_z-of_z (less_fits f some most) ∙ less f most) c.round-2.ensures))
