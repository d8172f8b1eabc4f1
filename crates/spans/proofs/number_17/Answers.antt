-- Zero, above zero, below zero.
use Rattle.std.proofs.Common.{ℕ, pos, refl, ap, ◌∙◌, arith}
use mathlib.Core.Path.{subst⁻¹}
use lib.Ieee.{binary64, fits, of_bits}
use Rattle.posit.specs.Number.{Number, number, magnitude}
use Rattle.posit.proofs.Complement.{opposite_is}
use Rattle.posit.proofs.Patterns.{number-zero}
use Rattle.real.specs.Reals.{Exactly, Holds}
use Rattle.real.proofs.Signs.{holds_plus, holds_minus}
use Rattle.spans.proofs.number_17.Goals as goal

pub returns-then-v-eq0 : goal.returns-then-v-eq0
unfolding of_bits fits
returns-then-v-eq0 c = subst⁻¹ (λ (z : Number). Holds 30 z (of_bits binary64 0)) (ap (number 1 17) c.if-v-eq0.true ∙ number-zero 1 17) (tt, (refl, refl))

pub returns-then-v-lt65536 : goal.returns-then-v-lt65536
returns-then-v-lt65536 c =
    let z = c.if-v-eq0.false in
    holds_plus 17 30 c.args.v c.magnitude_of.result (omega arith) c.if-v-lt65536.true c.magnitude_of.ensures

pub returns : goal.returns
returns c =
    let v = c.args.v in
    let x = c.magnitude_of-2.result in
    holds_minus 17 30 v x (omega arith) (omega (arith, c.requires.1)) c.requires.0
    (subst⁻¹ (λ (u : ℕ). Exactly (pos (magnitude 1 17 u)) 30 x) (opposite_is 17 v (omega (arith, c.if-v-eq0.false))) c.magnitude_of-2.ensures)
