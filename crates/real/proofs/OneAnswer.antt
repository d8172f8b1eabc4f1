-- The contracts determine their results: any two outcomes that one allows are equal.
use Rattle.std.proofs.Common.{◌≡◌, ℕ, sym, refl, ap, ◌∙◌, subst, arith}
use lib.Ieee.{Float, nan, inf, fin}
use Rattle.posit.specs.Number.{Number, nar, real, number, with_sign}
use Rattle.posit.specs.Rounding.{dyadic}
use Rattle.posit.proofs.Laws.{one_answer, dyadic_straight}
use Rattle.real.specs.Reals.{Holds, ToF64, FromF64}
use Rattle.real.specs.declared.numbers.RealAnswer.{RealAnswer}
use Rattle.real.specs.declared.numbers.RealAnswer.TheVariants.{Real, NaR}
use Rattle.real.proofs.Same.{exactly_one}

-- an f64 that holds a number: that of a pattern, and those of the edges of a span (crates/spans)
pub one-held : (q : ℕ) (z : Number) (x y : Float) → Holds q z x → Holds q z y → x ≡ y
one-held q nar x y v w = absurd v
one-held q (real k) x y v w = exactly_one k q x y v w

-- to_f64
pub one_real : (p : ℕ) (r s : RealAnswer) → ToF64 p r → ToF64 p s → r ≡ s
one_real p (Real x) (Real y) v w = ap Real (one-held 28 (number 1 16 p) x y v w)
one_real p (Real x) NaR v w = absurd (subst (λ (z : Number). Holds 28 z x) w v)
one_real p NaR (Real y) v w = absurd (subst (λ (z : Number). Holds 28 z y) v w)
one_real p NaR NaR v w = refl

-- from_f64, and from_bits, whose contract says the same of the f64 with those bits
pub one_pattern : (x : Float) (u v : ℕ) → FromF64 x u → FromF64 x v → u ≡ v
one_pattern nan u v a b = a ∙ sym b
one_pattern (inf s) u v a b = a ∙ sym b
one_pattern (fin s m e) u v a b = one_answer 1 16 (omega arith) (dyadic (with_sign s m) e) (dyadic_straight (with_sign s m) e) u v a b
