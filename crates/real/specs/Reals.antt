-- Document 01: "To f64: the answer is either a real with its f64 or NaR, the f64 exactly the number, +0.0 for zero." and
-- "From f64: NaN and both infinities give NaR, both zeros give 0, everything else goes by the rounding rule on its exact
-- number." An f64 is a value of the kit's account of IEEE 754: nan, inf s, or fin s m e, the number m * 2 ^ e with a sign.
use Rattle.std.specs.Prelude.{◌≡◌, ℕ, suc, ◌^◌, true, false, T, ℤ, pos, negsuc, Float}
use Rattle.std.specs.Float.{nan, inf, fin, binary64}
use Rattle.std.specs.Float.Ieee.{fits}
use Rattle.std.specs.Float.Ieee.Exact.{HasValue}
use Rattle.posit.specs.Number.{Number, nar, real, number, with_sign}
use Rattle.posit.specs.Rounding.{dyadic, Rounds}
use Rattle.real.specs.declared.numbers.RealAnswer.{RealAnswer}
use Rattle.real.specs.declared.numbers.RealAnswer.TheVariants.{Real, NaR}

-- x is an f64 and exactly k / 2 ^ q; of the two zeros, +0.0
abbrev pub Exactly : ℤ → ℕ → Float → Type 0
Exactly (pos m) q x = T (fits binary64 x) × HasValue x false m (2 ^ q)
Exactly (negsuc m) q x = T (fits binary64 x) × HasValue x true (suc m) (2 ^ q)

-- x is exactly the number, which is counted in units of 2 ^ -q. No f64 is NaR
abbrev pub Holds : ℕ → Number → Float → Type 0
Holds q nar x = ⊥
Holds q (real k) x = Exactly k q x

-- what each case of the answer says of the pattern p
abbrev pub ToF64 : ℕ → RealAnswer → Type 0
ToF64 p (Real x) = Holds 28 (number 1 16 p) x
ToF64 p NaR = number 1 16 p ≡ nar

-- p is the pattern for the f64
abbrev pub FromF64 : Float → ℕ → Type 0
FromF64 nan p = p ≡ 0x8000
FromF64 (inf s) p = p ≡ 0x8000
FromF64 (fin s m e) p = Rounds 1 16 (dyadic (with_sign s m) e) p
