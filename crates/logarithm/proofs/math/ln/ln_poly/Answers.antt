-- Each product fits, by bounds on the factors, and the bound on the result is computed at each fraction.
use Rattle.std.proofs.Common.{◌≡◌, ℕ, ◌+◌, ◌*◌, ◌/◌, ◌%◌, ◌^◌, ◌<◌, List, [], ◌∷◌, refl, arith}
use native.Mathlib.Nat.{div-le_of_le-mul}
use mir.Facts.{Fits-of_lt}
use lib.Dec.{lit≤}
use lib.Pow.{shl_exact}
use Rattle.logarithm.specs.Ln.{poly}
use Rattle.rows.proofs.Horner.{Step, plus, SquareProducts, square_products}
use Rattle.logarithm.proofs.Sweeps.Logarithms.{ln_below}
use Rattle.logarithm.proofs.math.ln.ln_poly.Goals as goal

abbrev steps : List Step
steps = plus 28 26661 ∷ plus 29 302676 ∷ plus 27 16136153 ∷ plus 30 193635259 ∷ []

module _ (f : ℕ) (h : f < 2 ^ 12) where
  shifted : (f * 2 ^ 31) % 2 ^ 64 ≡ f * 2 ^ 31
  shifted = shl_exact 12 31 64 h (lit≤ tt)

  known : SquareProducts 30 (2 ^ 30) (((f * 2 ^ 31) % 2 ^ 64 + 2) / (f + 8192)) 1584 steps
  known = square_products 30 (2 ^ 30) 1584 steps (div-le_of_le-mul (f + 8192) (let e = shifted in omega arith))

pub overflow_mul-result : goal.overflow_mul-result
overflow_mul-result c = Fits-of_lt (let k = known c.args.f c.requires in omega arith)

pub returns-clause-value : goal.returns-clause-value
unfolding poly
returns-clause-value c = rw (shifted c.args.f c.requires) refl

pub returns-clause-upper_bound : goal.returns-clause-upper_bound
unfolding poly
returns-clause-upper_bound c = rw (shifted c.args.f c.requires) (ln_below c.args.f c.requires)
