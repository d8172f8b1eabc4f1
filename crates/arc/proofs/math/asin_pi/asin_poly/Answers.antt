-- Each product fits, by bounds on the factors.
use Rattle.std.proofs.Common.{ℕ, ◌^◌, ◌≤◌, List, [], ◌∷◌, arith}
use mir.Facts.{Fits-of_lt}
use Rattle.rows.proofs.Horner.{Step, plus, SquareProducts, square_products}
use Rattle.arc.proofs.math.asin_pi.asin_poly.Goals as goal

abbrev steps : List Step
steps = plus 26 13944 ∷ plus 26 100344 ∷ plus 25 1780112 ∷ plus 26 42722832 ∷ []

bounds : {f : ℕ} → f ≤ 2 ^ 27 → SquareProducts 28 (2 ^ 27) f 3855 steps
bounds h = square_products 28 (2 ^ 27) 3855 steps h

pub overflow_mul-result : goal.overflow_mul-result
overflow_mul-result c = Fits-of_lt (let k = bounds c.requires in omega arith)

pub returns-clause-upper_bound : goal.returns-clause-upper_bound
returns-clause-upper_bound c = let k = bounds c.requires in omega arith
