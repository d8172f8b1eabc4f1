-- What the operations and rows 5 and 6 answer is what the definition of the turn computes with.
use Prim.Native.Nat.{ℕ}
use mathlib.Core.Path.{◌≡◌}
use Rattle.rows.specs.Rows.{Meets}
use Rattle.p16e1.specs.Functions.{row_of}
use Rattle.p16e1.proofs.ByNumber.{meets_answer, answer_is}
use Rattle.circular.specs.SinPi as SinPi
use Rattle.circular.specs.CosPi as CosPi
use Rattle.arithmetic.specs.Operations.{sum, product}
use Rattle.arithmetic.proofs.Laws.{one-sum, one_product}
use Rattle.turning.specs.Turn.{rounded_sum, rounded_product, sine, cosine}

pub sum_is : (a b r : ℕ) → Meets (sum a b) r → r ≡ rounded_sum a b
unfolding rounded_sum
sum_is a b r m = one-sum a b r (rounded_sum a b) m (meets_answer (sum a b))

pub product_is : (a b r : ℕ) → Meets (product a b) r → r ≡ rounded_product a b
unfolding rounded_product
product_is a b r m = one_product a b r (rounded_product a b) m (meets_answer (product a b))

pub sine_is : (p r : ℕ) → Meets (SinPi.row p) r → r ≡ sine p
unfolding row_of
sine_is p r m = answer_is 5 p r m

pub cosine_is : (p r : ℕ) → Meets (CosPi.row p) r → r ≡ cosine p
unfolding row_of
cosine_is p r m = answer_is 6 p r m
