-- The products that exp's polynomial forms, bounded.
use Rattle.std.proofs.Common.{ℕ, ◌^◌, ◌<◌, List, [], ◌∷◌, le_refl, le_of_lt}
use Rattle.rows.proofs.Horner.{Step, plus, Products, products}

abbrev steps : List Step
steps = plus 26 20487 ∷ plus 20 0x004F_8300 ∷ plus 24 0x038C_C980 ∷ plus 20 0x0001_EBFF_C800 ∷ plus 26 0x0002_C5C8_3600 ∷ []

pub exp_products : (f : ℕ) → f < 2 ^ 25 → Products (2 ^ 25) f (2 ^ 25) f 7529 7529 steps
exp_products f h = products (2 ^ 25) (2 ^ 25) 7529 steps (le_of_lt h) (le_of_lt h) (le_refl 7529)
