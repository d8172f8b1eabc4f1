-- Each product fits, by bounds on the factors, and each difference stays above zero.
use Rattle.std.proofs.Common.{ℕ, ◌^◌, ◌≤◌, List, [], ◌∷◌, arith}
use Rattle.rows.proofs.Horner.{Step, plus, less, SquareProducts, square_products}
use Rattle.arc.proofs.math.atan_pi.atan_poly.Goals as goal

-- f is divided by the last sum, and not multiplied
abbrev steps : List Step
steps = less 24 530432 ∷ less 28 1273944 ∷ less 28 2358656 ∷ less 27 9340208 ∷ less 29 17568064 ∷ plus 24 843315168 ∷ []

bounds : {f : ℕ} → f ≤ 2 ^ 28 → SquareProducts 28 (2 ^ 28) f 6969 steps
bounds h = square_products 28 (2 ^ 28) 6969 steps h

pub overflow_sub-g : goal.overflow_sub-g
overflow_sub-g c = let k = bounds c.requires in omega arith
