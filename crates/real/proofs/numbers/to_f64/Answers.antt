-- Zero, NaR, above zero, below zero.
use Rattle.std.proofs.Common.{ℕ, pos, refl, ap, ◌∙◌, subst, arith, rules}
use mathlib.Core.Path.{subst⁻¹}
use lib.Ieee.{binary64, fits, of_bits}
use Rattle.posit.specs.Number.{Number, magnitude, number}
use Rattle.posit.proofs.Patterns.{number-zero, number_nar}
use Rattle.real.specs.Reals.{Exactly, Holds}
use Rattle.real.proofs.Signs.{holds_plus, holds_minus}
use Rattle.real.proofs.numbers.to_f64.Goals as goal

pub returns-then-p-eq0 : goal.returns-then-p-eq0
unfolding of_bits fits
returns-then-p-eq0 c = subst⁻¹ (λ (z : Number). Holds 28 z (of_bits binary64 0)) (ap (number 1 16) c.if-p-eq0.true ∙ number-zero 1 16) (tt, (refl, refl))

pub returns-then-p-eq32768 : goal.returns-then-p-eq32768
returns-then-p-eq32768 c = ap (number 1 16) c.if-p-eq32768.true ∙ number_nar 1 16

pub returns-then-p-lt32768 : goal.returns-then-p-lt32768
returns-then-p-lt32768 c =
    let f = c.if-p-eq0.false in
    holds_plus 16 28 c.args.p c.magnitude_of.result (omega arith) c.if-p-lt32768.true c.magnitude_of.ensures

pub returns : goal.returns
returns c =
    let p = c.args.p in
    let x = c.magnitude_of-2.result in
    holds_minus 16 28 p x (omega arith) (omega (arith, c.if-p-eq32768.false)) (search rules)
    (subst (λ (u : ℕ). Exactly (pos (magnitude 1 16 u)) 28 x) c.opposite.ensures c.magnitude_of-2.ensures)
