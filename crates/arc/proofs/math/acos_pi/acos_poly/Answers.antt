-- Each product fits, by bounds on the factors.
use Rattle.std.proofs.Common.{ℕ, ◌^◌, ◌≤◌, List, [], ◌∷◌, arith}
use mir.Facts.{Fits-of_lt}
use Rattle.rows.proofs.Horner.{Step, plus, SquareProducts, square_products}
use Rattle.arc.proofs.math.acos_pi.acos_poly.Goals as goal

abbrev steps : List Step
steps = plus 27 13696 ∷ plus 26 100510 ∷ plus 25 1780047 ∷ plus 26 42722829 ∷ []

bounds : {f : ℕ} → f ≤ 2 ^ 27 → SquareProducts 28 (2 ^ 27) f 7955 steps
bounds h = square_products 28 (2 ^ 27) 7955 steps h

pub overflow_mul-result : goal.overflow_mul-result
overflow_mul-result c = Fits-of_lt (let k = bounds c.requires in omega arith)

pub overflow_sub-result : goal.overflow_sub-result
overflow_sub-result c = let k = bounds c.requires in omega arith
