-- Negating an f64 negates its pattern.
use Rattle.std.proofs.Common.{◌≡◌, ℕ, ap, ◌∙◌, subst, arith}
use lib.Ieee.{Float, nan, inf, fin, neg}
use Rattle.posit.specs.Number.{opposite, with_sign}
use Rattle.posit.specs.Rounding.{Known, Rounds, dyadic}
use Rattle.posit.proofs.Complement.{opposite_is}
use Rattle.posit.proofs.Laws.{mirrors}
use Rattle.real.specs.Reals.{FromF64}
use Rattle.real.proofs.Values.{negated-number}

-- NaR is its own opposite
nar_opposite : (p : ℕ) → p ≡ 0x8000 → opposite 16 p ≡ 0x8000
nar_opposite p e = ap (opposite 16) e ∙ opposite_is 16 0x8000 (omega arith)

pub mirrored : (x : Float) (p : ℕ) → FromF64 x p → FromF64 (neg x) (opposite 16 p)
unfolding neg
mirrored nan p r = nar_opposite p r
mirrored (inf s) p r = nar_opposite p r
mirrored (fin s m e) p r =
    subst (λ (x : Known). Rounds 1 16 x (opposite 16 p)) (negated-number s m e) (mirrors 1 16 (omega arith) (dyadic (with_sign s m) e) p r)
