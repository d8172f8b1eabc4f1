-- Each product fits, by bounds on the factors, and the bound on the result is computed at each fraction.
use Rattle.std.proofs.Common.{◌≡◌, ℕ, ◌+◌, ◌*◌, ◌/◌, ◌%◌, ◌^◌, ◌<◌, List, [], ◌∷◌, refl, arith}
use native.Mathlib.Nat.{div-le_of_le-mul}
use mir.Facts.{Fits-of_lt}
use lib.Dec.{lit≤}
use lib.Pow.{shl_exact}
use Rattle.logarithm.specs.Log2.{poly}
use Rattle.rows.proofs.Horner.{Step, plus, SquareProducts, square_products}
use Rattle.logarithm.proofs.Sweeps.Logarithms.{log2_below}
use Rattle.logarithm.proofs.math.log2.log2_poly.Goals as goal

abbrev steps : List Step
steps = plus 25 13209 ∷ plus 26 75694 ∷ plus 24 2017019 ∷ plus 24 96817627 ∷ []

module _ (f : ℕ) (h : f < 2 ^ 12) where
  shifted : (f * 2 ^ 29) % 2 ^ 64 ≡ f * 2 ^ 29
  shifted = shl_exact 12 29 64 h (lit≤ tt)

  known : SquareProducts 30 (2 ^ 28) ((f * 2 ^ 29) % 2 ^ 64 / (f + 8192)) 1661 steps
  known = square_products 30 (2 ^ 28) 1661 steps (div-le_of_le-mul (f + 8192) (let e = shifted in omega arith))

pub overflow_mul-d : goal.overflow_mul-d
overflow_mul-d c = Fits-of_lt (let k = known c.args.f c.requires in omega arith)

pub overflow_add-result : goal.overflow_add-result
overflow_add-result c = Fits-of_lt (let k = known c.args.f c.requires in omega arith)

pub overflow_mul-result : goal.overflow_mul-result
overflow_mul-result c = Fits-of_lt (let k = known c.args.f c.requires in omega arith)

pub returns-clause-value : goal.returns-clause-value
unfolding poly
returns-clause-value c = rw (shifted c.args.f c.requires) refl

pub returns-clause-upper_bound : goal.returns-clause-upper_bound
unfolding poly
returns-clause-upper_bound c = rw (shifted c.args.f c.requires) (log2_below c.args.f c.requires)
